use Rattle.std.proofs.Common.{◌≡◌}
use Rattle.tsn_model.specs.Network.{hop_count}
use Rattle.tsn_timing.specs.Users.{users_in}
use Rattle.tsn_timing.proofs.Using.{AreHopsDone}
use Rattle.tsn_timing.proofs.users.push_hops.Given as goal

abbrev pub invariant-loop-hop : goal.invariant-loop-hop
invariant-loop-hop l = record {
  done : AreHopsDone l.network l.stream l.hop (users_in l.lists.items);
  end : l.hop-end ≡ hop_count l.network l.stream;
}
