use Rattle.std.proofs.Common.{◌≡◌, All, take, length}
use Rattle.tsn_replay.specs.Faults.{IsWithin}
use Rattle.tsn_replay.proofs.conditions.all_within.Given as goal

abbrev pub invariant-loop-frame : goal.invariant-loop-frame
invariant-loop-frame l = record { so_far : All (IsWithin l.end) (take l.frame-index l.frames); last : l.frame-index-end ≡ length l.frames }
