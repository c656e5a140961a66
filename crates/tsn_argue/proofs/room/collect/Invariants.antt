use Rattle.std.proofs.Common.{◌≡◌, ◌-◌, ◌≤◌, drop, length}
use Rattle.tsn_sums.specs.Sums.{AreLow}
use Rattle.tsn_argue.specs.State.{view_of}
use Rattle.tsn_argue.specs.Rooms.{network_of, rows_on}
use Rattle.tsn_argue.proofs.room.collect.Given as goal

abbrev pub invariant-loop-step : goal.invariant-loop-step
invariant-loop-step l = record {
  rows : l.rows ≡ rows_on (network_of l.group) (view_of l.group.view.now) l.group.link l.gap.low l.gap.high l.is_left
      (drop (length l.group.others.now - l.step) l.group.others.now);
  few : length l.rows ≤ l.step;
  low : AreLow l.rows;
}
