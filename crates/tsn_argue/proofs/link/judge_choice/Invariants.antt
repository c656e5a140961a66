use Rattle.std.proofs.Common.{◌≡◌, take}
use Rattle.tsn_argue.specs.Faults.{AreAmong}
use Rattle.tsn_argue.proofs.link.judge_choice.Given as goal

abbrev pub invariant-loop-frame : goal.invariant-loop-frame
invariant-loop-frame l = AreAmong l.frames (take l.frame-index l.some) × (l.seen ≡ take l.frame-index l.some)
