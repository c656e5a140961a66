use Rattle.std.proofs.Common.{◌≤◌, drop}
use Rattle.tsn_argue.specs.Rooms.{network_of, frames_of}
use Rattle.tsn_argue.specs.State.{view_of}
use Rattle.tsn_argue.proofs.Turns.{IsFound}
use Rattle.tsn_argue.proofs.filling.lost_between.Given as goal

abbrev pub invariant-loop-frame : goal.invariant-loop-frame
invariant-loop-frame l = record {
  small : l.low ≤ 4000000000;
  less : l.lost ≤ l.low;
  is : IsFound (network_of l.group) (view_of l.group.view.now) l.group.link (frames_of l.group) l.group.hall.first l.group.hall.last l.fixed
      l.low l.lost (drop l.frame-index l.fixed);
}
