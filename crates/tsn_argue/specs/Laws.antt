-- The laws of the words in which a first fault is told, the contracts of the functions in `src/laws.rt`.
use Rattle.std.specs.Prelude.{◌≡◌}
use Rattle.tsn_model.specs.Network.{Network}
use Rattle.tsn_cert.specs.declared.plan.Plan.{Plan}
use Rattle.tsn_cert.specs.declared.argument.Argument.{Argument}
use Rattle.tsn_cert.specs.declared.certificate.Certificate.{Certificate}
use Rattle.tsn_check.specs.declared.fault.CheckFault.{CheckFault}
use Rattle.tsn_argue.specs.Certified.{ArgumentCertifies, Certifies}
use Rattle.tsn_argue.specs.Faults.{IsWhy, IsFirstFault}
use Rattle.tsn_check.specs.declared.argument.ArgumentFault.{ArgumentFault}

-- a plan and a certificate with a first fault show nothing, and have no other first fault
abbrev pub FirstFaultsRefute : Type 0
FirstFaultsRefute = (network : Network) (plan : Plan) (certificate : Certificate) (fault : CheckFault) → IsFirstFault network plan certificate fault
    → (Certifies network plan certificate → ⊥) × ((other : CheckFault) → IsFirstFault network plan certificate other → fault ≡ other)

-- nor does an argument, where the fault is told with the numbers that show it, and these are no others
abbrev pub FirstReasonsRefute : Type 0
FirstReasonsRefute = (network : Network) (plan : Plan) (argument : Argument) (fault : ArgumentFault) → IsWhy network plan argument fault
    → (ArgumentCertifies network plan argument → ⊥) × ((other : ArgumentFault) → IsWhy network plan argument other → fault ≡ other)
