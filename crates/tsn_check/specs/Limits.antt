-- What is right is within the limits of a file. Each is the contract of a function in `src/laws.rt`.
--     RightPlansFit          the numbers of a right plan
--     CertifiedTreesFit      those of a tree that shows something of a plan
use Rattle.std.specs.Prelude.{◌≤◌, length, IsTrue}
use Rattle.tsn_model.specs.Network.{Network, IsWellFormed}
use Rattle.tsn_cert.specs.Plan.{plan_fits}
use Rattle.tsn_cert.specs.Cert.{cert_fits, max_number}
use Rattle.tsn_cert.specs.Laws.{AreInGrammar}
use Rattle.tsn_cert.specs.declared.plan.Plan.{Plan}
use Rattle.tsn_cert.specs.declared.cert.Cert.{Cert}
use Rattle.tsn_check.specs.Plans.{IsPlanRight}
use Rattle.tsn_check.specs.Certified.{TreeCertifies}

-- no number of a right plan of a network within its limits is above those of a file
abbrev pub RightPlansFit : Type 0
RightPlansFit = (network : Network) (plan : Plan) → IsWellFormed network → IsPlanRight network plan → IsTrue (plan_fits plan)

-- nor is one of a tree that shows something of a plan, where the file's grammar has its nodes, and there are at most 4,294,967,295
abbrev pub CertifiedTreesFit : Type 0
CertifiedTreesFit = (network : Network) (plan : Plan) (cert : Cert) → IsWellFormed network → TreeCertifies network plan cert
    → AreInGrammar cert.nodes → length cert.nodes ≤ max_number → IsTrue (cert_fits cert)
