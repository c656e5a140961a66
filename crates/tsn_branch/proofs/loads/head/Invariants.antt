use Rattle.std.proofs.Common.{◌≡◌, ◌≤◌, pos, take}
use Rattle.tsn_branch.specs.Loads.{head_in}
use Rattle.tsn_branch.proofs.loads.head.Given as goal

abbrev pub invariant-loop-index : goal.invariant-loop-index
invariant-loop-index l = record {
  least_so_far : pos l.least ≡ head_in l.offsets (take l.index l.users);
  early : l.least ≤ 1206336000;
}
