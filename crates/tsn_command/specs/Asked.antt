-- How a command ran that words ask for.
--     effort_of                       how a plan is searched for
--     RunsPlan                        over the files that are named, or with nothing written, where one can't be made
--     RunsAsked                       by the sources and files that the words name, what became of standard output, and the status
use Rattle.std.specs.Prelude.{◌≡◌, ◌⊎◌, ℕ, [], ◌∷◌, IfSome, is_some, option_map}
use Rattle.tsn_words.specs.declared.words.Words.{Words}
use Rattle.tsn_words.specs.declared.words.Words.TheVariants.{Valid, Plan, Check, Prove, Explain, Gates, Replay, Chart, Streams}
use Rattle.tsn_words.specs.declared.words.PlanWords.{PlanWords}
use Rattle.tsn_cli.specs.Check.{CheckAnswers}
use Rattle.tsn_outcome.specs.Run.{RunsOver, SinkRun, failed_in, taken_in}
use Rattle.tsn_cli.specs.Valid.{ValidAnswers}
use Rattle.tsn_cli.specs.Explain.{ExplainAnswers}
use Rattle.tsn_cli.specs.Tables.{GatesAnswers, ReplayAnswers, StreamsAnswers}
use Rattle.tsn_cli.specs.Plan.{PlanAnswers}
use Rattle.tsn_cli.specs.Options.{gates_options, replay_options}
use Rattle.tsn_cli.specs.Charts.{RunsChart}
use Rattle.tsn_outcome.specs.Runs.{RunsTold}
use Rattle.tsn_cli.specs.Devices.{CannotBegin, Devices, OnCert, OnNetwork, OnPlan, RunsProve}
use Rattle.tsn_cli.specs.Files.{MadeFiles}
use Rattle.tsn_answer.specs.declared.effort.Effort.{Effort}

-- how a plan is searched for
abbrev pub effort_of : PlanWords → Effort
effort_of words = record { method = words.search; workers = words.workers; limit = words.steps }

-- a plan, to the files that the words name
abbrev pub RunsPlan : {S F : Type 0} → Devices S F → PlanWords → SinkRun → ℕ → Type 0
RunsPlan devices words output status =
    let plan_path = option_map (λ path. path.now) words.plan in
    let cert_path = option_map (λ path. path.now) words.cert in
    OnNetwork devices words.network.now (λ sources. MadeFiles devices.taken devices.spoilt (taken_in devices.taken) (failed_in devices.spoilt)
    (devices.makes_plan plan_path) (λ cert. IfSome cert (devices.makes_cert cert_path) × (is_some cert ≡ is_some words.cert))
    (λ files. RunsTold words.json (PlanAnswers (effort_of words) (is_some words.cert)) sources files output status))
    ⊎ CannotBegin devices words.network.now plan_path cert_path words.json output status

abbrev pub RunsAsked : {S F : Type 0} → Devices S F → Words → SinkRun → ℕ → Type 0
RunsAsked devices (Valid words) output status =
    OnNetwork devices words.network.now (λ sources. RunsTold words.json (ValidAnswers words.offsets.items) sources [] output status)
RunsAsked devices (Plan words) output status = RunsPlan devices words output status
RunsAsked devices (Check words) output status =
    OnCert devices words.network.now words.plan.now words.cert.now (λ sources. RunsTold words.json CheckAnswers sources [] output status)
RunsAsked devices (Prove words) output status = RunsProve devices words output status
RunsAsked devices (Explain words) output status =
    OnCert devices words.network.now words.plan.now words.cert.now (λ sources. RunsOver ExplainAnswers sources (output ∷ []) status)
RunsAsked devices (Gates words) output status =
    OnPlan devices words.network.now words.plan.now (λ sources. RunsOver (GatesAnswers (gates_options words)) sources (output ∷ []) status)
RunsAsked devices (Replay words) output status =
    OnPlan devices words.network.now words.plan.now (λ sources. RunsOver (ReplayAnswers (replay_options words)) sources (output ∷ []) status)
RunsAsked devices (Chart words) output status =
    RunsChart devices.given devices.failed devices.is_at_end devices.opens_network devices.opens_plan devices.opens_cert words
    (option_map (λ cert. cert.now) words.cert) output status
RunsAsked devices (Streams words) output status =
    OnPlan devices words.network.now words.plan.now (λ sources. RunsOver (StreamsAnswers words.format) sources (output ∷ []) status)
