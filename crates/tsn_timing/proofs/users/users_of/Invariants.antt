use Rattle.std.proofs.Common.{◌≡◌}
use Rattle.tsn_model.specs.Network.{stream_count}
use Rattle.tsn_timing.specs.Users.{AreUsersBefore, users_in}
use Rattle.tsn_timing.proofs.users.users_of.Given as goal

abbrev pub invariant-loop-stream : goal.invariant-loop-stream
invariant-loop-stream l = record {
  so_far : AreUsersBefore l.network l.stream (users_in l.lists.items);
  end : l.stream-end ≡ stream_count l.network;
}
