use Rattle.std.proofs.Common.{◌≡◌, ◌+◌, ◌≤◌, ◌<◌, ℕ, length}
use Rattle.tsn_model.specs.Network.{route_of, from_at, to_at}
use Rattle.tsn_timing.proofs.tables.next_start.Given as goal

abbrev pub invariant-loop-step : goal.invariant-loop-step
invariant-loop-step l = record {
  none : (j : ℕ) → j < length l.hops → length l.hops ≤ j + l.step → to_at l.network (route_of l.network l.stream) j ≡ l.from → ⊥;
  begins : l.from ≡ from_at l.network (route_of l.network l.stream) (length l.hops);
  end : l.step-end ≡ length l.hops;
}
