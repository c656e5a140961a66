use Rattle.std.proofs.Common.{◌≡◌, ◌<◌, ℕ, pos, get_or}
use Rattle.std.specs.Prelude.{◌+ℤ◌}
use Rattle.tsn_model.specs.Timing.{shifts, Sends}
use Rattle.tsn_timing.proofs.timing.Timing.comes_after.Given as goal

abbrev pub invariant-loop-first : goal.invariant-loop-first
invariant-loop-first l =
    (k second : ℕ) → k < l.first-index → pos second ≡ pos (get_or (shifts l.self l.stream) k 0) +ℤ l.lag → Sends l.self l.other second → ⊥
