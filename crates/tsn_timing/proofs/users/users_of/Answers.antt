use Rattle.std.proofs.Common.{arith}
use Rattle.tsn_timing.proofs.Using.{none_before, all_before}
use Rattle.tsn_timing.proofs.users.users_of.Goals as goal

pub loop-stream-init : goal.loop-stream-init
loop-stream-init c = record {
  so_far = none_before c.args.network.now _ c.links.result c.links.ensures.value c.in_ok-lists.ensures;
  end = c.streams-stream-end.ensures.value;
}

pub returns : goal.returns
returns c = all_before c.args.network.now _ c.loop-stream.stream (omega arith) c.loop-stream.invariant.so_far
