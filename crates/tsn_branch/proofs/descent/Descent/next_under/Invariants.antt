use Rattle.std.proofs.Common.{◌≡◌, List, length, take}
use Rattle.tsn_model.specs.Network.{Network}
use Rattle.tsn_model.specs.Places.{pending}
use Rattle.tsn_model.specs.declared.Triple.{Triple}
use Rattle.tsn_conflict.specs.Path.{Fits}
use Rattle.tsn_branch.specs.Descent.{Stands}
use Rattle.tsn_branch.proofs.descent.Descent.next_under.Given as goal

abbrev pub invariant-loop-side : goal.invariant-loop-side
invariant-loop-side l = record {
  stands : (network : Network) → Stands network l.initial.self → Stands network l.self;
  fits : (triples : List Triple) → Fits triples l.initial.self.path → Fits triples l.self.path;
  kept : take l.fn.floor l.self.path ≡ take l.fn.floor l.initial.self.path;
  same : pending l.self.path ≡ pending l.initial.self.path;
}

abbrev pub decreases-loop-side : goal.decreases-loop-side
decreases-loop-side l = length l.self.path
