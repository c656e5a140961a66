use Rattle.std.proofs.Common.{◌≡◌, pos, ap, ◌∙◌, to_z, arith}
use Rattle.std.specs.Int.{w128}
use Rattle.tsn_model.specs.Network.{release_of}
use Rattle.tsn_argue.proofs.FirstView.{mapped_more}
use Rattle.tsn_argue.proofs.view.releases.Goals as goal

pub loop-stream-preserved : goal.loop-stream-preserved
loop-stream-preserved c =
    let is : to_z w128 c.window.result.least ≡ pos c.window.result.least = grind arith in
    mapped_more (λ i. pos (release_of c.args.timing.now i)) c.loop-stream.list.items _ _ c.loop-stream.stream c.in_ok-push.ensures.items
    (is ∙ ap pos c.window.ensures.least) c.loop-stream.invariant
