use Rattle.std.proofs.Common.{◌≡◌, ℕ, ◌<◌}
use Rattle.tsn_model.specs.Schedule.{offset_of}
use Rattle.tsn_book.proofs.ties.comes_before.Given as goal

abbrev pub invariant-loop-k : goal.invariant-loop-k
invariant-loop-k l = (i : ℕ) → i < l.k → offset_of l.offsets i ≡ offset_of l.others i
