use Rattle.std.proofs.Common.{◌≡◌, ◌++◌, ◌<◌, ◌-◌, ◌*◌, List, ℕ, length, pos, ◌+ℤ◌, ◌≤ℤ◌}
use Rattle.tsn_model.specs.Network.{stream_count}
use Rattle.tsn_book.proofs.Chains.{SummedTo}
use Rattle.tsn_book.proofs.ties.sum_on.Given as goal

abbrev pub invariant-loop-depth : goal.invariant-loop-depth
invariant-loop-depth l = record {
  parted : (after : List ℕ) × (l.left ++ after ≡ l.fn.chain);
  summed : SummedTo l.timing l.path l.fn.chain (length l.left) l.stream l.walk.start l.walk.sum;
  counted : l.walk.start < stream_count l.timing;
  low : pos 0 ≤ℤ (l.walk.sum +ℤ pos (1210000000 * (length l.fn.chain - length l.left)));
  high : l.walk.sum ≤ℤ pos (1210000000 * (length l.fn.chain - length l.left));
}

abbrev pub decreases-loop-depth : goal.decreases-loop-depth
decreases-loop-depth l = length l.left
