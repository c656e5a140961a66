use Rattle.std.proofs.Common.{◌≡◌, ◌≤◌, All, take}
use Rattle.tsn_branch.specs.Links.{shared_links, IsUnloaded}
use Rattle.tsn_branch.proofs.loads.first_load.Given as goal

abbrev pub invariant-loop-link_index : goal.invariant-loop-link_index
invariant-loop-link_index l = record {
  unloaded : All (IsUnloaded l.timing l.offsets l.target) (take l.link_index (shared_links l.timing));
  cycle : l.cycle ≡ l.timing.cycle;
  short : l.cycle ≤ 1000000000;
}
