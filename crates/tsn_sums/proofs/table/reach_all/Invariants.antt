use Rattle.std.proofs.Common.{◌≡◌, ℕ, ◌-◌, ◌≤◌, ◌<◌, drop, get_or, length, false}
use Rattle.tsn_sums.specs.Sums.{TellsReached}
use Rattle.tsn_sums.proofs.table.reach_all.Given as goal

abbrev pub invariant-loop-step : goal.invariant-loop-step
invariant-loop-step l = record {
  even : length l.reached ≡ length l.initial.reached;
  within : l.most ≤ l.units;
  past : (k : ℕ) → l.most < k → k ≤ l.units → get_or l.reached k false ≡ false;
  tells : TellsReached (drop (length l.works - l.step) l.works) l.unit l.units l.reached;
}
