use Rattle.std.proofs.Common.{refl}
use Rattle.tsn_model.proofs.More.{mapped_more}
use Rattle.tsn_gate.proofs.slack.starts_of.Goals as goal

pub loop-window-preserved : goal.loop-window-preserved
loop-window-preserved c =
    mapped_more _ c.args.windows.now c.loop-window.window-index _ _ _ _ c.loop-window-test.true c.loop-window.invariant c.in_ok-push.ensures.items refl
