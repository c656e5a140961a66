-- The laws of the words in which a first fault is told, the contracts of functions in `src/laws.rt`.
use Rattle.std.specs.Prelude.{◌≡◌}
use Rattle.tsn_model.specs.Network.{Network}
use Rattle.tsn_cert.specs.declared.plan.Plan.{Plan}
use Rattle.tsn_cert.specs.declared.cert.Cert.{Cert}
use Rattle.tsn_check.specs.Certified.{TreeCertifies}
use Rattle.tsn_check.specs.Faults.{IsWhy, IsFirstFault}
use Rattle.tsn_check.specs.declared.fault.CheckFault.{CheckFault}
use Rattle.tsn_check.specs.declared.why.TreeFault.{TreeFault}

-- a plan and a certificate with a first fault show nothing, and have no other first fault
abbrev pub FirstFaultsRefute : Type 0
FirstFaultsRefute = (network : Network) (plan : Plan) (cert : Cert) (fault : CheckFault) → IsFirstFault network plan cert fault
    → (TreeCertifies network plan cert → ⊥) × ((other : CheckFault) → IsFirstFault network plan cert other → fault ≡ other)

-- nor does a tree, where the fault is told with the numbers that show it, and these are no others
abbrev pub FirstReasonsRefute : Type 0
FirstReasonsRefute = (network : Network) (plan : Plan) (cert : Cert) (fault : TreeFault) → IsWhy network plan cert fault
    → (TreeCertifies network plan cert → ⊥) × ((other : TreeFault) → IsWhy network plan cert other → fault ≡ other)
