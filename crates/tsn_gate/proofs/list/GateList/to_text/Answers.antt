use Rattle.std.proofs.Common.{◌≡◌, ◌≤◌, length, ap, ◌∙◌, subst}
use Rattle.std.proofs.lemmas.List.{take_all}
use Rattle.tsn_model.specs.Bridge.{LinkGates}
use Rattle.tsn_gate.specs.Table.{table_text}
use Rattle.tsn_gate.proofs.Tables.{lines_of}
use Rattle.tsn_gate.proofs.list.GateList.to_text.Goals as goal

pub returns : goal.returns
unfolding table_text
returns c =
    let entries = c.args.self.now.entries in
    let same : c.deref-entry-items.result.now ≡ entries = c.deref-entry-items.ensures.value ∙ ap (λ (list : LinkGates). list.entries) c.self.view_is in
    let past : length entries ≤ c.loop-entry.entry-index = subst (λ xs. length xs ≤ c.loop-entry.entry-index) same c.loop-entry-test.false in
    c.loop-entry.invariant ∙ ap (lines_of c.args.problem.now c.args.self.now) (take_all c.loop-entry.entry-index entries past)
