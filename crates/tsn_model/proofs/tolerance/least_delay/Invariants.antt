use Rattle.std.proofs.Common.{◌≡◌, ◌<◌, ℕ}
use Rattle.tsn_model.specs.Network.{stream_count, route_of, hop_count, route_link, Continues}
use Rattle.tsn_model.specs.Timing.{hop_delay}
use Rattle.tsn_model.specs.PlainWords.{Under}
use Rattle.tsn_model.proofs.tolerance.least_delay.Given as goal

abbrev pub invariant-loop-i : goal.invariant-loop-i
invariant-loop-i l = record {
  so_far : Under l.least l.most (λ slack. (j : ℕ) → j < l.i
      → ((before k : ℕ) → before < hop_count l.network j → k < hop_count l.network j → Continues l.network (route_of l.network j) before k
      → route_link l.network j k ≡ l.link → slack < hop_delay l.network j (route_link l.network j before)));
  end : l.i-end ≡ stream_count l.network;
}
