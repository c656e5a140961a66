use Rattle.std.proofs.Common.{◌++◌, string_bytes, ap, ◌∙◌}
use Rattle.std.specs.List.{flat_map}
use Rattle.std.proofs.lemmas.List.{take_all}
use Rattle.tsn_gate.specs.Taprio.{part_text}
use Rattle.tsn_model.proofs.More.{written_behind}
use Rattle.tsn_gate.proofs.taprio.write_parts.Goals as goal

pub loop-list-preserved : goal.loop-list-preserved
loop-list-preserved c =
    written_behind (part_text c.args.problem.now) _ c.args.lists.now c.loop-list.list-index _ _ _ _ c.loop-list-test.true c.loop-list.invariant
    c.in_ok-write_part.ensures (ap (part_text c.args.problem.now) c.list-item.is)

pub returns : goal.returns
returns c =
    c.loop-list.invariant
    ∙ ap (λ lists. string_bytes c.args.text.now ++ flat_map (part_text c.args.problem.now) lists)
    (take_all c.loop-list.list-index c.args.lists.now c.loop-list-test.false)
