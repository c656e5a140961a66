use Rattle.std.proofs.Common.{◌≡◌, ◌<◌, All, take, length}
use Rattle.tsn_model.specs.Bridge.{LinkGates}
use Rattle.tsn_replay.proofs.conditions.all_exist.Given as goal

abbrev pub invariant-loop-list : goal.invariant-loop-list
invariant-loop-list l = record {
  so_far : All (λ (list : LinkGates). list.link < l.links) (take l.list-index l.lists);
  last : l.list-index-end ≡ length l.lists;
}
