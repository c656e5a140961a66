use Rattle.std.proofs.Common.{◌≡◌, [], ◌∷◌, map, take}
use Rattle.tsn_cert.specs.Node.{tree_node}
use Rattle.tsn_model.specs.Certificate.{IsNodeShown}
use Rattle.tsn_model.specs.Places.{AreRight, places_after}
use Rattle.tsn_check.specs.Plans.{offsets_in}
use Rattle.tsn_check.specs.Turns.{AreTurns, decisions, places_at}
use Rattle.tsn_check.proofs.tree.check_tree.Given as goal

abbrev pub invariant-loop-number : goal.invariant-loop-number
invariant-loop-number l = record {
  turns : AreTurns l.claim.timing.now l.path.items;
  right : AreRight (IsNodeShown l.claim.timing.now l.claim.target (offsets_in l.claim.plan.now)) ([] ∷ []) (take l.number (map tree_node l.nodes));
  places : places_after (take l.number (map tree_node l.nodes)) ≡ places_at l.open (decisions l.path.items);
}
