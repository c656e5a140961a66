-- Why a file is refused: a network, a plan.
use Rattle.std.specs.Prelude.{◌≡◌, ℕ, List, Err}
use Rattle.tsn_model.specs.declared.fault.NetFault.{NetFault}
use Rattle.tsn_net.specs.File.{HasFault}
use Rattle.tsn_cert.specs.declared.fault.FileFault.{FileFault}
use Rattle.tsn_cert.specs.Plan.{plan_in}
use Rattle.tsn_outcome.specs.declared.outcome.FileKind.TheVariants as kind
use Rattle.tsn_outcome.specs.declared.outcome.Outcome.TheVariants.{RefusedNetwork, RefusedFile}
use Rattle.tsn_outcome.specs.Run.{Output}
use Rattle.tsn_outcome.specs.Outcome.{IsOutcome}

-- the network file is refused
abbrev pub RefusesNetwork : List ℕ → Output → Type 0
RefusesNetwork file output = (fault : NetFault) × HasFault file fault × IsOutcome (RefusedNetwork fault) output

-- the plan file is refused
abbrev pub RefusesPlan : List ℕ → Output → Type 0
RefusesPlan file output = (fault : FileFault) × (plan_in file ≡ Err fault) × IsOutcome (RefusedFile kind.Plan fault) output
