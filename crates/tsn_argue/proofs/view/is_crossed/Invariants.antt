use Rattle.std.proofs.Common.{ℕ, ◌<◌, ◌≤ℤ◌, get_or, pos}
use Rattle.tsn_argue.proofs.view.is_crossed.Given as goal

abbrev pub invariant-loop-stream : goal.invariant-loop-stream
invariant-loop-stream l = (i : ℕ) → i < l.stream → get_or l.low.view i (pos 0) ≤ℤ get_or l.high.view i (pos 0)
