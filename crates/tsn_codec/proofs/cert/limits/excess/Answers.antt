use Rattle.std.proofs.Common.{arith}
use Rattle.tsn_codec.proofs.Above.{tree_large, tree_within}
use Rattle.tsn_codec.proofs.cert.limits.excess.Goals as goal

pub returns-in-Some : goal.returns-in-Some
returns-in-Some c =
    tree_large c.args.cert.now c.list-nodes.result.now c.in-Some.number c.index-nodes-number.result c.has_lag-lags.result (omega arith)
    c.list-nodes.ensures c.in-Some.ensures c.index-nodes-number.is c.has_lag-lags.ensures

pub returns-in-None : goal.returns-in-None
returns-in-None c = tree_within c.args.cert.now c.list-nodes.result.now (omega arith) c.list-nodes.ensures c.in-None.ensures
