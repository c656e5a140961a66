-- What `plan` answers.
--     found_outcome                what is answered of a plan that was found
--     finished_output, stop_for, stopped_output    the texts of what was found, and what is known where the search was stopped
--     ShowsBy, ShowsIfAny, IsTreeOf                a certificate, if one is written
--     outcome_found, text_found, IsWanted          what is answered of what a search has found, its plan, and its certificate
--     TellsPlan, TellsStop                         an output that tells of a search of the network
--     TellsMany                                    an output that refuses the search of many streams in the order of the file
--     PlanAnswers, PlanStops                       the answer to the file read
use Rattle.std.specs.Prelude.{◌≡◌, ◌⊎◌, ◌<◌, ℕ, Bool, List, [], ◌∷◌, length, MatchOption, Option, Some, None, if◌then◌else◌, is_some, option_map}
use Rattle.tsn_model.specs.Network.{Network, HasFewStreams, stream_count}
use Rattle.tsn_timing.specs.Solution.{Solution}
use Rattle.tsn_net.specs.File.{States}
use Rattle.tsn_timing.specs.Problem.{NamedNetwork}
use Rattle.tsn_cert.specs.declared.plan.Plan.{Plan}
use Rattle.tsn_cert.specs.declared.plan.Plan.TheVariants as plan
use Rattle.tsn_cert.specs.Plan.{plan_text}
use Rattle.tsn_cert.specs.declared.certificate.Certificate.{Certificate}
use Rattle.tsn_cert.specs.declared.certificate.Certificate.TheVariants.{Tree, Argument}
use Rattle.tsn_model.specs.Search.{kept_of}
use Rattle.tsn_book.specs.Book.{Progress}
use Rattle.tsn_answer.specs.declared.known.Known.{Known}
use Rattle.tsn_answer.specs.declared.effort.Effort.{Effort}
use Rattle.tsn_answer.specs.declared.found.Found.{Found}
use Rattle.tsn_answer.specs.declared.found.Found.TheVariants as found
use Rattle.tsn_answer.specs.Optimum.{IsFoundPlan}
use Rattle.tsn_answer.specs.Answer.{IsCertificateBy, IsCertOf, IsReadAgain, HasGivenUp, IsStoppedWith, Shows, plan_kept}
use Rattle.tsn_outcome.specs.declared.stop.Stop.{Stop}
use Rattle.tsn_outcome.specs.declared.outcome.Outcome.{Outcome}
use Rattle.tsn_outcome.specs.declared.outcome.Outcome.TheVariants.{Optimal, NoSchedule, Stopped, TooMany}
use Rattle.tsn_outcome.specs.Run.{Output, Command}
use Rattle.tsn_outcome.specs.Said.{line_of, status_of}
use Rattle.tsn_cli.specs.RunOutput.{cert_bytes, HasFormIfAny, IsCut}
use Rattle.tsn_words.specs.declared.options.Method.TheVariants.{FileOrder}
use Rattle.tsn_outcome.specs.Outcome.{IsOutcome}
use Rattle.tsn_cli.specs.Refusal.{RefusesNetwork}

-- what is answered of a plan that was found, after so many nodes were settled, or by so many steps; of a plan that there is none, as of no schedule
abbrev pub found_outcome : Plan → ℕ → Outcome
found_outcome (plan.Schedule span offsets) count = Optimal span count
found_outcome plan.None count = NoSchedule count

-- the best plan of a search that was stopped, if it has one
abbrev pub best_plan_text : Option Solution → List ℕ
best_plan_text None = []
best_plan_text (Some best) = plan_text (plan.Schedule best.flowspan best.offsets)

-- what a finished search is told by: the plan file, the certificate file, if one is written, and the line
abbrev pub finished_output : Plan → Option Certificate → ℕ → Output
finished_output plan certificate count = record {
  status = status_of (found_outcome plan count);
  texts = plan_text plan ∷ cert_bytes certificate ∷ line_of (found_outcome plan count) ∷ [];
}

-- what is told of what a search knows: the flowspan of its best schedule, if any, and the bound
abbrev pub stop_for : Known → Stop
stop_for known = record { best = option_map (λ solution. solution.flowspan) known.best; bound = known.bound }

-- what a search that was stopped is told by: its best schedule, if any, and what is known and how many nodes were settled
abbrev pub stopped_output : Known → ℕ → Output
stopped_output known count = record {
  status = status_of (Stopped (stop_for known) count);
  texts = best_plan_text known.best ∷ [] ∷ line_of (Stopped (stop_for known) count) ∷ [];
}

-- the certificate is read again from its file, and shows what the plan says, by so many nodes or steps, at most the limit; and where there are few streams it is
-- of the kind that was asked for
abbrev pub ShowsBy : Network → Effort → Plan → Certificate → ℕ → Type 0
ShowsBy network effort plan certificate count = Shows network effort.limit plan certificate count × IsReadAgain certificate × (HasFewStreams network → IsCertificateBy effort certificate)

-- it does; or, where none is written, there is one that does
abbrev pub ShowsIfAny : Network → Effort → Plan → Option Certificate → ℕ → Type 0
ShowsIfAny network effort plan None count = (certificate : Certificate) × ShowsBy network effort plan certificate count
ShowsIfAny network effort plan (Some certificate) count = ShowsBy network effort plan certificate count

-- the certificate of a finished search is a tree
abbrev pub IsTreeOf : Progress → Certificate → Type 0
IsTreeOf book (Tree cert) = IsCertOf book cert
IsTreeOf book (Argument argument) = ⊥

-- what is answered of what a search has found, and the text of its plan
abbrev pub outcome_found : Found → Outcome
outcome_found (found.Finished book) = found_outcome (plan_kept book.network (kept_of book.network book.history)) (length book.history)
outcome_found (found.Argued plan argument) = found_outcome plan (length argument.steps)
outcome_found (found.Stopped book known) = Stopped (stop_for known) (length book.history)
outcome_found (found.GaveUp known count) = Stopped (stop_for known) count

abbrev pub text_found : Found → List ℕ
text_found (found.Finished book) = plan_text (plan_kept book.network (kept_of book.network book.history))
text_found (found.Argued plan argument) = plan_text plan
text_found (found.Stopped book known) = best_plan_text known.best
text_found (found.GaveUp known count) = best_plan_text known.best

-- its certificate, where one is wanted, and else none
abbrev pub IsWanted : Bool → Found → Option Certificate → Type 0
IsWanted wanted (found.Finished book) certificate = (is_some certificate ≡ wanted) × MatchOption certificate (Unit {0}) (IsTreeOf book)
IsWanted wanted (found.Argued plan argument) certificate = certificate ≡ (if wanted then Some (Argument argument) else None)
IsWanted wanted (found.Stopped book known) certificate = certificate ≡ None
IsWanted wanted (found.GaveUp known count) certificate = certificate ≡ None

-- It tells of a search that has found what it was for: the first schedule of least flowspan, or that there is none, and a certificate that shows it
-- exactly where one is wanted, and which has a form in a file; or as much of that as there is memory for.
abbrev pub TellsPlan : Network → Effort → Bool → Output → Type 0
TellsPlan network effort wanted output =
    (plan : Plan) × ((certificate : Option Certificate) × ((count : ℕ) × (is_some certificate ≡ wanted) × IsFoundPlan network plan
    × ShowsIfAny network effort plan certificate count
    × (((output ≡ finished_output plan certificate count) × HasFormIfAny certificate) ⊎ IsCut (plan_text plan) certificate output)))

-- what a search knew that was stopped at its limit, the count of the nodes that were settled; or one that gave up on many streams, the count of its conflicts
abbrev pub IsKnownThen : Network → ℕ → Known → ℕ → Type 0
IsKnownThen network limit known count =
    ((book : Progress) × IsStoppedWith network limit book known × (count ≡ length book.history)) ⊎ HasGivenUp network limit known count

-- it tells of a search that was stopped, where so much was known
abbrev pub TellsStop : Network → ℕ → Stop → Output → Type 0
TellsStop network limit stop output =
    (known : Known) × ((count : ℕ) × IsKnownThen network limit known count × (stop ≡ stop_for known) × (output ≡ stopped_output known count))

-- it says that there are too many streams for a search in the order of the file, which was asked for
pub record TellsMany (network : Network) (effort : Effort) (output : Output) : Type 0 where
  pub order : effort.method ≡ FileOrder
  pub many : 128 < stream_count network
  pub outcome : IsOutcome TooMany output

-- the answer to a network file, where so much is to be done and a certificate is wanted or not
abbrev pub PlanAnswers : Effort → Bool → Command
PlanAnswers effort wanted (file ∷ []) output =
    RefusesNetwork file output
    ⊎ ((problem : NamedNetwork) × States file problem
    × (TellsPlan problem.network effort wanted output ⊎ ((stop : Stop) × TellsStop problem.network effort.limit stop output)
    ⊎ TellsMany problem.network effort output))
PlanAnswers effort wanted _ output = ⊥

-- the answer to a network file, where at most so many nodes are settled and the search is stopped, with so much known
abbrev pub PlanStops : ℕ → Stop → Command
PlanStops limit stop (file ∷ []) output = (problem : NamedNetwork) × States file problem × TellsStop problem.network limit stop output
PlanStops limit stop _ output = ⊥
