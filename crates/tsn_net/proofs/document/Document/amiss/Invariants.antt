use Rattle.std.proofs.Common.{◌≡◌, ℕ, ◌<◌, drop, get_or, None}
use Rattle.tsn_model.specs.declared.fault.Code.TheVariants.{NotToml}
use Rattle.tsn_net.specs.DocumentView.{document_view}
use Rattle.tsn_net.specs.Conditions.{conditions, first_place, least_fault, fault_of}
use Rattle.tsn_net.proofs.document.Document.amiss.Given as goal

-- the fault by the codes that are left is the document's, and those before hold nowhere
abbrev pub invariant-loop-code : goal.invariant-loop-code
invariant-loop-code l = record {
  rest : least_fault (drop l.code-index l.code-items) (document_view l.self) ≡ fault_of (document_view l.self);
  clear : (j : ℕ) → j < l.code-index → first_place (get_or conditions j NotToml) (document_view l.self) ≡ None;
}
