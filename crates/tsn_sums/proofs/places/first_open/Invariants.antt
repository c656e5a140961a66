use Rattle.std.proofs.Common.{◌-◌, ◌≤◌}
use Rattle.tsn_sums.specs.Places.{AreFull}
use Rattle.tsn_sums.proofs.places.first_open.Given as goal

abbrev pub invariant-loop-place : goal.invariant-loop-place
invariant-loop-place l = record {
  from : l.fn.from ≤ l.place;
  full : AreFull l.left.unit l.left.works.now l.right.works.now l.room.idle l.room.low l.room.high l.room.work l.fn.from l.place;
}

abbrev pub decreases-loop-place : goal.decreases-loop-place
decreases-loop-place l = l.until - l.place
