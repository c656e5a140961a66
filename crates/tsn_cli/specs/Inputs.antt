-- What a run made of the file of a source that it read.
--     IsRead, IsReadOver           what was made of it, and how many reads failed
--     TakesNetwork, TakesPlan      a file is taken or refused
--     IsLeft, AreRead              what was made of the files of a network and of a plan
use Rattle.std.specs.Prelude.{◌≡◌, ◌⊎◌, ℕ, List, [], ◌∷◌, Result, Ok, Err}
use Rattle.tsn_net.specs.File.{States}
use Rattle.tsn_timing.specs.Problem.{NamedNetwork}
use Rattle.tsn_cert.specs.Plan.{plan_in}
use Rattle.tsn_device.specs.declared.device.ReadFault.{ReadFault}
use Rattle.tsn_device.specs.declared.device.ReadFault.TheVariants.{TooLong}
use Rattle.tsn_cli.specs.declared.inputs.NetworkRead.{NetworkRead}
use Rattle.tsn_cli.specs.declared.inputs.NetworkRead.TheVariants as of_network
use Rattle.tsn_cli.specs.declared.inputs.PlanRead.{PlanRead}
use Rattle.tsn_cli.specs.declared.inputs.PlanRead.TheVariants as of_plan
use Rattle.tsn_cli.specs.declared.inputs.BothRead.{BothRead}
use Rattle.tsn_cli.specs.declared.inputs.BothRead.TheVariants.{Taken, Refused}
use Rattle.tsn_outcome.specs.Run.{GivesFile, GivesTooMuch, IsUnread, Reading, SourceRun}
use Rattle.tsn_cli.specs.Refusal.{RefusesNetwork, RefusesPlan}
use Rattle.tsn_outcome.specs.Outcome.{TellsFailures, output_of}

-- the source gave a file, of which this was made; or too much
abbrev pub IsRead : {M : Type 0} → (List ℕ → M → Type 0) → Reading → Result M ReadFault → Type 0
IsRead Makes reading (Ok made) = (file : List ℕ) × GivesFile reading file × Makes file made
IsRead Makes reading (Err TooLong) = GivesTooMuch reading
IsRead Makes reading (Err fault) = Unit {0}

-- and how many of its reads failed
pub record IsReadOver {M : Type 0} (Makes : List ℕ → M → Type 0) (source : SourceRun) (outcome : Result M ReadFault) : Type 0 where
  pub reads : IsRead Makes source.reading outcome
  pub failures : TellsFailures (source.reads ∷ []) outcome

-- the file is that of a network, or it is refused with this answer
abbrev pub TakesNetwork : List ℕ → NetworkRead → Type 0
TakesNetwork file (of_network.Taken problem) = States file problem
TakesNetwork file (of_network.Refused answer) = RefusesNetwork file (output_of (Ok answer))

-- that of a plan
abbrev pub TakesPlan : List ℕ → PlanRead → Type 0
TakesPlan file (of_plan.Taken stated) = plan_in file ≡ Ok stated
TakesPlan file (of_plan.Refused answer) = RefusesPlan file (output_of (Ok answer))

-- a source that was left alone
abbrev pub IsLeft : SourceRun → Type 0
IsLeft source = IsUnread source.reading × (source.reads.after ≡ source.reads.before)

-- what was made of the files of a network and of a plan: the plan's source is left alone where the network isn't taken
abbrev pub AreRead : SourceRun → SourceRun → Result BothRead ReadFault → Type 0
AreRead network plan (Ok (Taken problem stated)) =
    IsReadOver TakesNetwork network (Ok (of_network.Taken problem)) × IsReadOver TakesPlan plan (Ok (of_plan.Taken stated))
AreRead network plan (Ok (Refused answer)) =
    (IsReadOver TakesNetwork network (Ok (of_network.Refused answer)) × IsLeft plan)
    ⊎ ((problem : NamedNetwork) × IsReadOver TakesNetwork network (Ok (of_network.Taken problem))
    × IsReadOver TakesPlan plan (Ok (of_plan.Refused answer)))
AreRead network plan (Err fault) =
    (IsReadOver TakesNetwork network (Err fault) × IsLeft plan)
    ⊎ ((problem : NamedNetwork) × IsReadOver TakesNetwork network (Ok (of_network.Taken problem)) × IsReadOver TakesPlan plan (Err fault))
