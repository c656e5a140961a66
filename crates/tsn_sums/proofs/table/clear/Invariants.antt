use Rattle.std.proofs.Common.{◌≡◌, ℕ, ◌<◌, get_or, length, true, false}
use Rattle.tsn_sums.proofs.table.clear.Given as goal

abbrev pub invariant-loop-place : goal.invariant-loop-place
invariant-loop-place l = record {
  even : length l.reached ≡ length l.initial.reached;
  first : get_or l.reached 0 false ≡ true;
  done : (k : ℕ) → 0 < k → k < l.place → get_or l.reached k false ≡ false;
}
