use Rattle.std.proofs.Common.{◌≡◌, ℕ, ◌+◌, ◌≤◌, ◌<◌, get_or, length, false}
use Rattle.tsn_sums.specs.Sums.{marked}
use Rattle.tsn_sums.proofs.table.mark.Given as goal

abbrev pub invariant-loop-step : goal.invariant-loop-step
invariant-loop-step l = record {
  even : length l.reached ≡ length l.initial.reached;
  done : (k : ℕ) → k ≤ l.units → l.units < k + l.step → get_or l.reached k false ≡ marked l.initial.reached l.need l.back l.unit k;
  past : (k : ℕ) → l.units < k → get_or l.reached k false ≡ get_or l.initial.reached k false;
  todo : (k : ℕ) → k + l.step ≤ l.units → get_or l.reached k false ≡ get_or l.initial.reached k false;
}
