use Rattle.tsn_conflict.specs.Rows.{uses_in}
use Rattle.tsn_conflict.specs.Pairs.{pair_in}
use Rattle.tsn_model.proofs.More.{mapped_more}
use Rattle.tsn_conflict.proofs.pairs.pairs_of.Goals as goal

pub loop-triple-preserved : goal.loop-triple-preserved
loop-triple-preserved c =
    mapped_more (pair_in (uses_in c.args.rows.now)) c.args.triples.now c.loop-triple.triple-index _ _ _ _ c.loop-triple-test.true c.loop-triple.invariant
    c.in_ok-push.ensures.items c.pair_of.ensures
