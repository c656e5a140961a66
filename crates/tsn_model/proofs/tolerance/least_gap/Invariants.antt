use Rattle.std.proofs.Common.{◌≡◌, ◌-◌, ◌+◌, ◌<◌, ◌↔◌, ℕ, length, get_or}
use Rattle.tsn_model.proofs.Tolerating.{AreNeighboursFar}
use Rattle.tsn_model.proofs.tolerance.least_gap.Given as goal

abbrev pub invariant-loop-k : goal.invariant-loop-k
invariant-loop-k l = record {
  so_far : (slack : ℕ)
      → (slack < l.least) ↔ ((slack < get_or l.starts 0 0 + l.cycle - get_or l.starts (length l.starts - 1) 0) × AreNeighboursFar l.starts l.k slack);
  end : l.k-end ≡ length l.starts;
}
