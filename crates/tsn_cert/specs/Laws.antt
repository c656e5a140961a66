-- The laws of files, each the contract of a function in `tsn_codec/src/laws.rt`.
--     IsInGrammar, AreInGrammar           nodes that have a form in a file
--     PlanTextIsRead, CertTextIsRead      what is printed is read again
use Rattle.std.specs.Prelude.{◌≡◌, List, Some, Ok, IsTrue, All}
use Rattle.tsn_model.specs.Certificate.{Node}
use Rattle.tsn_cert.specs.Plan.{plan_fits, plan_in, plan_text}
use Rattle.tsn_cert.specs.Cert.{node_of, are_of, cert_fits, cert_in, node_value, cert_text}
use Rattle.tsn_cert.specs.declared.plan.Plan.{Plan}
use Rattle.tsn_cert.specs.declared.cert.Cert.{Cert}

-- the grammar has the node: it is what its value says
abbrev pub IsInGrammar : Node → Type 0
IsInGrammar node = node_of (node_value node) ≡ Some node

abbrev pub AreInGrammar : List Node → Type 0
AreInGrammar nodes = All IsInGrammar nodes

-- the text of a plan within the limits says that plan
abbrev pub PlanTextIsRead : Type 0
PlanTextIsRead = (plan : Plan) → IsTrue (plan_fits plan) → plan_in (plan_text plan) ≡ Ok plan

-- the text of a certificate within the limits, whose nodes are in the grammar and of its format, says that certificate
abbrev pub CertTextIsRead : Type 0
CertTextIsRead = (cert : Cert) → AreInGrammar cert.nodes → IsTrue (are_of cert.format cert.nodes) → IsTrue (cert_fits cert) → cert_in (cert_text cert) ≡ Ok cert
