-- The law of a run of `plan`, the contract of a function in `src/laws.rt`.
--     GaveNetwork                      the network's source gave a file
--     TookText, TookPlan, TookCert     a file took a text
--     RanAsSaid, PlanRunIsFirst        what a run with status 0 or 4 has read and written
use Rattle.std.specs.Prelude.{◌≡◌, ◌⊎◌, ℕ, List, Option, Some, is_some, option_map}
use Rattle.std.specs.Io.KnownBytes.{Appends}
use Rattle.tsn_words.specs.declared.words.Words.{Words}
use Rattle.tsn_words.specs.declared.words.Words.TheVariants.{Plan}
use Rattle.tsn_words.specs.declared.words.PlanWords.{PlanWords}
use Rattle.tsn_outcome.specs.Run.{GivesFile, SinkRun, failed_in, reading_of, taken_in}
use Rattle.tsn_cli.specs.Devices.{Devices}
use Rattle.tsn_cli.specs.Laws.{WritesAsSaid}
use Rattle.tsn_command.specs.Asked.{RunsAsked}

-- the source that the words name for the network was read to its end, with no read that failed, and gave this file
pub record GaveNetwork {S F : Type 0} (devices : Devices S F) (words : PlanWords) (file : List ℕ) : Type 0 where
  pub source : S
  pub left : S
  pub opened : devices.opens_network words.network.now source
  pub unfailing : devices.failed left ≡ 0
  pub gave : GivesFile (reading_of (devices.given source) (devices.given left) (devices.is_at_end left)) file

-- a sink of which this was so took this text whole, with no write that failed
pub record TookText {W : Type 0} (taken : W → Option (List ℕ)) (failed : W → ℕ) (IsMade : W → Type 0) (text : List ℕ) : Type 0 where
  pub sink : W
  pub left : W
  pub made : IsMade sink
  pub unfailing : failed left ≡ 0
  pub took : Appends (taken sink) (taken left) text

-- the file that the words name for the plan took this text, and the one that they name for the certificate
abbrev pub TookPlan : {S F : Type 0} → Devices S F → PlanWords → List ℕ → Type 0
TookPlan devices words text = TookText devices.taken devices.spoilt (devices.makes_plan (option_map (λ path. path.now) words.plan)) text

abbrev pub TookCert : {S F : Type 0} → Devices S F → PlanWords → List ℕ → Type 0
TookCert {S} {F} devices words text =
    TookText (taken_in devices.taken) (failed_in devices.spoilt)
    (λ cert. (file : F) × (cert ≡ Some file) × devices.makes_cert (option_map (λ path. path.now) words.cert) file) text

-- of a run of `plan` with status 0 or 4: the network's source gave a file, and the others took what the status says of it
abbrev pub RanAsSaid : {S F : Type 0} → Devices S F → Words → ℕ → Type 0
RanAsSaid devices (Plan words) status = (status ≡ 0) ⊎ (status ≡ 4)
    → (file : List ℕ) × GaveNetwork devices words file × WritesAsSaid status (is_some words.cert) file (TookPlan devices words) (TookCert devices words)
RanAsSaid devices _ status = Unit {0}

-- it is so of each run of a command
abbrev pub PlanRunIsFirst : {S F : Type 0} → Devices S F → Type 0
PlanRunIsFirst devices = (words : Words) (output : SinkRun) (status : ℕ) → RunsAsked devices words output status → RanAsSaid devices words status
