use Rattle.std.proofs.Common.{◌≡◌, ◌∷◌, take}
use Rattle.tsn_model.specs.Argument.{unit_on}
use Rattle.tsn_argue.proofs.room.unit_of.Given as goal

abbrev pub invariant-loop-frame : goal.invariant-loop-frame
invariant-loop-frame l = l.unit ≡ unit_on l.timing l.link (l.fn.first ∷ take l.frame-index l.others)
