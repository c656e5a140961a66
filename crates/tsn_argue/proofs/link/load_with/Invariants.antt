use Rattle.std.proofs.Common.{◌∷◌, take}
use Rattle.tsn_argue.specs.State.{view_of}
use Rattle.tsn_argue.specs.Loads.{IsLoad}
use Rattle.tsn_argue.proofs.link.load_with.Given as goal

abbrev pub invariant-loop-frame : goal.invariant-loop-frame
invariant-loop-frame l = IsLoad l.view.timing.now (view_of l.view) l.link (l.fn.first ∷ take l.frame-index l.others) l.load
