use Rattle.std.proofs.Common.{take}
use Rattle.tsn_conflict.specs.Path.{Fits}
use Rattle.tsn_branch.proofs.arcs.fits.Given as goal

abbrev pub invariant-loop-decision : goal.invariant-loop-decision
invariant-loop-decision l = Fits l.conflicts.triples (take l.decision-index l.path)
