-- What an argument is to show, as the checker has it.
use Rattle.std.specs.Prelude.{Result, Ok, Err}
use Rattle.tsn_model.specs.Network.{Network}
use Rattle.tsn_cert.specs.declared.plan.Plan.{Plan}
use Rattle.tsn_cert.specs.declared.argument.Argument.{Argument}
use Rattle.tsn_argue.specs.Certified.{IsFitting}
use Rattle.tsn_argue.specs.Faults.{IsWrongAim}
use Rattle.tsn_argue.specs.Steps.{goal_of, IsAim}
use Rattle.tsn_argue.specs.declared.aim.Aim.{Aim}
use Rattle.tsn_check.specs.declared.argument.ArgumentFault.{ArgumentFault}

-- the target is the plan's and the goal fits it, or one of them doesn't
abbrev pub FindsAim : Network → Plan → Argument → Result Aim ArgumentFault → Type 0
FindsAim network plan argument (Ok aim) = IsAim network aim × IsFitting network plan argument (goal_of aim)
FindsAim network plan argument (Err fault) = IsWrongAim network plan argument fault
