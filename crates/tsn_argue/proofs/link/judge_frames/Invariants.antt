use Rattle.std.proofs.Common.{◌≡◌, ◌∷◌, take}
use Rattle.tsn_model.specs.Argument.{AreOn}
use Rattle.tsn_argue.proofs.link.judge_frames.Given as goal

abbrev pub invariant-loop-frame : goal.invariant-loop-frame
invariant-loop-frame l = AreOn l.timing l.link (l.fn.first ∷ take l.frame-index l.others) × (l.seen ≡ take l.frame-index l.others)
