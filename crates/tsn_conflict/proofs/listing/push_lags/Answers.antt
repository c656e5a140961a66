use Rattle.std.proofs.Common.{pos, rules}
use Rattle.tsn_conflict.specs.Rows.{triple_on}
use Rattle.tsn_model.proofs.More.{mapped_behind}
use Rattle.tsn_conflict.proofs.listing.push_lags.Goals as goal

pub loop-lag-preserved : goal.loop-lag-preserved
loop-lag-preserved c =
    mapped_behind (triple_on c.args.left c.args.right c.args.link) c.args.triples.now.items c.args.lags.now c.loop-lag.lag-index (pos 0) _ _ _ c.loop-lag-test.true
    c.loop-lag.invariant c.in_ok-push.ensures.items (search rules)
