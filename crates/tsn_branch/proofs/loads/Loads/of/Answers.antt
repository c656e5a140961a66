use Rattle.std.proofs.Common.{arith}
use Rattle.tsn_branch.proofs.Loading.{shared_whole}
use Rattle.tsn_branch.proofs.loads.Loads.of.Goals as goal

pub returns : goal.returns
returns c =
    let past = c.loop-link-test.false in
    let end = c.loop-link.invariant.end in
    let done = c.loop-link.auto.link-end in
    shared_whole c.args.timing.now _ c.loop-link.link (omega arith) c.loop-link.invariant.upto
