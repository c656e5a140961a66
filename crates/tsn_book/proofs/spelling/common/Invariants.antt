use Rattle.std.proofs.Common.{◌≡◌, ◌<◌, ◌≤◌, ◌-◌, ℕ, length}
use Rattle.tsn_model.specs.Schedule.{offset_of}
use Rattle.tsn_book.proofs.spelling.common.Given as goal

abbrev pub invariant-loop-count : goal.invariant-loop-count
invariant-loop-count l = record {
  in_first : l.count ≤ length l.offsets;
  in_second : l.count ≤ length l.others;
  same : (i : ℕ) → i < l.count → offset_of l.offsets i ≡ offset_of l.others i;
}

abbrev pub decreases-loop-count : goal.decreases-loop-count
decreases-loop-count l = length l.offsets - l.count
