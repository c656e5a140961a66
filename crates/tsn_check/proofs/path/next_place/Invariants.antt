use Rattle.std.proofs.Common.{◌≡◌, vec_len}
use Rattle.tsn_model.specs.Places.{pending}
use Rattle.tsn_check.specs.Turns.{AreTurns, decisions}
use Rattle.tsn_check.proofs.path.next_place.Given as goal

abbrev pub invariant-loop-last : goal.invariant-loop-last
invariant-loop-last l = record {
  turns : AreTurns l.timing l.path.items;
  same : pending (decisions l.path.items) ≡ pending (decisions l.initial.path.items);
}

abbrev pub decreases-loop-last : goal.decreases-loop-last
decreases-loop-last l = vec_len l.path
