use Rattle.std.proofs.Common.{◌≡◌, ◌<◌, ℕ, length, get_or}
use Rattle.tsn_replay.specs.Values.{FrameValue}
use Rattle.tsn_replay.specs.Faults.{IsListed}
use Rattle.tsn_replay.proofs.conditions.all_waited_listed.Given as goal

abbrev pub invariant-loop-frame : goal.invariant-loop-frame
invariant-loop-frame l = record {
  done : (k : ℕ) (d : FrameValue) → k < l.frame-index → IsListed l.lists (get_or l.frames k d).link;
  last : l.frame-index-end ≡ length l.frames;
}
