use Rattle.std.proofs.Common.{◌≡◌, ℕ, ◌+◌, ◌<◌, get_or, length}
use Rattle.tsn_sums.specs.Sums.{most_marked}
use Rattle.tsn_sums.proofs.table.fill.Given as goal

abbrev pub invariant-loop-place : goal.invariant-loop-place
invariant-loop-place l = record {
  even : length l.filled ≡ length l.initial.filled;
  none : l.place ≡ 0 → l.most ≡ 0;
  last : (k : ℕ) → k + 1 ≡ l.place → l.most ≡ most_marked l.reached l.unit k;
  done : (k : ℕ) → k < l.place → get_or l.filled k 0 ≡ most_marked l.reached l.unit k;
}
