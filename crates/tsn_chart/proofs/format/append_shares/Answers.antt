use Rattle.std.proofs.Common.{refl}
use Rattle.tsn_model.proofs.More.{written_behind}
use Rattle.tsn_chart.proofs.format.append_shares.Goals as goal

pub loop-share-preserved : goal.loop-share-preserved
loop-share-preserved g c =
    written_behind (g.F.Format.stream_text c.args.problem.now) _ c.args.streams.now c.loop-share.share-index _ _ _ _ c.loop-share-test.true
    c.loop-share.invariant c.in_ok-stream.ensures refl

pub loop-share-2-preserved : goal.loop-share-2-preserved
loop-share-2-preserved g c =
    written_behind (g.F.Format.link_text c.args.problem.now) _ c.args.links.now c.loop-share-2.share-index _ _ _ _ c.loop-share-2-test.true
    c.loop-share-2.invariant c.in_ok-link.ensures refl
