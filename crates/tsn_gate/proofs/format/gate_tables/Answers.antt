use Rattle.std.proofs.Common.{ap, ◌∙◌}
use Rattle.std.specs.List.{flat_map}
use Rattle.std.proofs.lemmas.List.{take_all}
use Rattle.tsn_gate.specs.Table.{table_text}
use Rattle.tsn_model.proofs.More.{written_more}
use Rattle.tsn_gate.proofs.format.gate_tables.Goals as goal

pub loop-list-preserved : goal.loop-list-preserved
loop-list-preserved c =
    written_more (table_text c.args.problem.now) c.args.lists.now c.loop-list.list-index _ _ _ _ c.loop-list-test.true c.loop-list.invariant
    c.in_ok-push_str.ensures.bytes
    (c.as_str.ensures.value ∙ c.in_ok-to_text.ensures ∙ ap (table_text c.args.problem.now) c.list-item.is)

pub returns : goal.returns
returns c =
    c.loop-list.invariant
    ∙ ap (λ lists. flat_map (table_text c.args.problem.now) lists) (take_all c.loop-list.list-index c.args.lists.now c.loop-list-test.false)
