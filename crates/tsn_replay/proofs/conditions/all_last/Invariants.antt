use Rattle.std.proofs.Common.{◌≡◌, All, take, length}
use Rattle.tsn_model.specs.Gates.{cycle_of}
use Rattle.tsn_model.specs.Bridge.{LinkGates}
use Rattle.tsn_replay.proofs.conditions.all_last.Given as goal

abbrev pub invariant-loop-list : goal.invariant-loop-list
invariant-loop-list l = record {
  so_far : All (λ (list : LinkGates). cycle_of list.entries ≡ l.cycle) (take l.list-index l.lists);
  last : l.list-index-end ≡ length l.lists;
}
