use Rattle.std.proofs.Common.{◌++◌, map, refl, ap, ◌∙◌}
use Rattle.std.proofs.lemmas.List.{take_all}
use Rattle.tsn_gate.specs.Windows.{moved}
use Rattle.tsn_model.proofs.More.{mapped_behind}
use Rattle.tsn_gate.proofs.windows.push_windows.Goals as goal

pub loop-shift-preserved : goal.loop-shift-preserved
loop-shift-preserved c =
    mapped_behind (moved c.args.first) _ c.args.shifts.now c.loop-shift.shift-index 0 _ _ _ c.loop-shift-test.true c.loop-shift.invariant
    c.in_ok-push.ensures.items refl

pub returns : goal.returns
returns c =
    c.loop-shift.invariant ∙ ap (λ shifts. c.args.windows.now.items ++ map (moved c.args.first) shifts)
    (take_all c.loop-shift.shift-index c.args.shifts.now c.loop-shift-test.false)
