use Rattle.std.proofs.Common.{◌≡◌, All, length, map, take}
use Rattle.tsn_model.specs.Network.{Network}
use Rattle.tsn_model.specs.Arcs.{arc_of}
use Rattle.tsn_conflict.specs.Kept.{AreConflictsOf}
use Rattle.tsn_diff.specs.Limits.{IsArcAmong}
use Rattle.tsn_branch.proofs.arcs.arcs_of.Given as goal

abbrev pub invariant-loop-decision : goal.invariant-loop-decision
invariant-loop-decision l = record {
  so_far : (network : Network) → AreConflictsOf network l.conflicts → l.arcs.items ≡ map (arc_of network) (take l.decision-index l.path);
  among : All (IsArcAmong (length l.conflicts.uses)) l.arcs.items;
}
