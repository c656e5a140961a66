use Rattle.std.proofs.Common.{ℕ, ◌<◌, ◌≤ℤ◌, pos}
use Rattle.tsn_model.specs.Schedule.{offset_of}
use Rattle.tsn_model.specs.Argument.{low_at}
use Rattle.tsn_argue.specs.State.{view_of}
use Rattle.tsn_argue.proofs.step.first_below.Given as goal

abbrev pub invariant-loop-stream : goal.invariant-loop-stream
invariant-loop-stream l = (i : ℕ) → i < l.stream → pos (offset_of l.plan i) ≤ℤ low_at (view_of l.view) i
