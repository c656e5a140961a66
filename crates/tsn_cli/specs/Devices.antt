-- What commands read from and write to, and how `prove` ran.
--     Devices, devices_of             what a command reads from and writes to
--     OnNetwork, OnPlan, OnCert       a run with some sources that words name
--     CannotBegin                     a file that is to be written can't be made
--     RunsProve                       over the files that are named, or with nothing written, where one can't be made
use Rattle.std.specs.Prelude.{◌⊎◌, ℕ, List, Bool, Option, option_map}
use Rattle.tsn_words.specs.declared.words.ProveWords.{ProveWords}
use Rattle.tsn_device.specs.declared.device.Source.{Ghosts as SourceOf}
use Rattle.tsn_device.specs.declared.device.Sink.{Ghosts as SinkOf}
use Rattle.tsn_outcome.specs.declared.devices.Given.{Ghosts as GivenOf}
use Rattle.tsn_outcome.specs.Run.{SinkRun, SourceRun}
use Rattle.tsn_cli.specs.Prove.{ProveAnswers}
use Rattle.tsn_outcome.specs.Runs.{OverCert, OverNetwork, OverPlan, RunsTold}
use Rattle.tsn_cli.specs.Files.{MadeFiles}
use Rattle.tsn_cli.specs.Unmade.{IsUnmade}

-- What a command reads from and writes to. Of a source: what it gave, how many reads of it failed, whether it is at its end, and whether it is that of a
-- word. Of a file: what it took, how many writes to it failed, whether it is that of a word, if there is one, and whether that can't be made.
pub record Devices (S F : Type 0) : Type 1 where
  pub given : S → Option (List ℕ)
  pub failed : S → ℕ
  pub is_at_end : S → Bool
  pub opens_network : List ℕ → S → Type 0
  pub opens_plan : List ℕ → S → Type 0
  pub opens_cert : List ℕ → S → Type 0
  pub taken : F → Option (List ℕ)
  pub spoilt : F → ℕ
  pub makes_plan : Option (List ℕ) → F → Type 0
  pub makes_cert : Option (List ℕ) → F → Type 0
  pub refuses_plan : Option (List ℕ) → Type 0
  pub refuses_cert : Option (List ℕ) → Type 0

-- what a command is given: by the members of its sources, of its files, and of what gives them
abbrev pub devices_of : {S F O G : Type 0} → SourceOf S → SinkOf F → GivenOf G S F O → G → Devices S F
devices_of source file members given = record {
  given = source.given;
  failed = source.failed;
  is_at_end = source.is_at_end;
  opens_network = members.opens_network given;
  opens_plan = members.opens_plan given;
  opens_cert = members.opens_cert given;
  taken = file.taken;
  spoilt = file.failed;
  makes_plan = members.makes_plan given;
  makes_cert = members.makes_cert given;
  refuses_plan = members.refuses_plan given;
  refuses_cert = members.refuses_cert given;
}

-- it holds of a run over the network of a word; over that and the plan of one; over these and the certificate of one
abbrev pub OnNetwork : {S F : Type 0} → Devices S F → List ℕ → (List SourceRun → Type 0) → Type 0
OnNetwork devices network holds = OverNetwork devices.given devices.failed devices.is_at_end (devices.opens_network network) holds

abbrev pub OnPlan : {S F : Type 0} → Devices S F → List ℕ → List ℕ → (List SourceRun → Type 0) → Type 0
OnPlan devices network plan holds =
    OverPlan devices.given devices.failed devices.is_at_end (devices.opens_network network) (devices.opens_plan plan) holds

abbrev pub OnCert : {S F : Type 0} → Devices S F → List ℕ → List ℕ → List ℕ → (List SourceRun → Type 0) → Type 0
OnCert devices network plan cert holds =
    OverCert devices.given devices.failed devices.is_at_end (devices.opens_network network) (devices.opens_plan plan) (devices.opens_cert cert) holds

-- a file that is to be written can't be made, so no search began
abbrev pub CannotBegin : {S F : Type 0} → Devices S F → List ℕ → Option (List ℕ) → Option (List ℕ) → Bool → SinkRun → ℕ → Type 0
CannotBegin devices network plan cert json output status =
    (devices.refuses_plan plan ⊎ devices.refuses_cert cert)
    × IsUnmade devices.given devices.failed devices.is_at_end (devices.opens_network network) json output status

-- a proof of a plan, to the files that the words name
abbrev pub RunsProve : {S F : Type 0} → Devices S F → ProveWords → SinkRun → ℕ → Type 0
RunsProve devices words output status =
    let plan_path = option_map (λ path. path.now) words.plan in
    let cert_path = option_map (λ path. path.now) words.cert in
    OnPlan devices words.network.now words.given.now (λ sources. MadeFiles devices.taken devices.spoilt devices.taken devices.spoilt
    (devices.makes_cert cert_path) (devices.makes_plan plan_path)
    (λ files. RunsTold words.json (ProveAnswers words.steps) sources files output status))
    ⊎ CannotBegin devices words.network.now plan_path cert_path words.json output status
