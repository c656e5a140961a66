use Rattle.std.proofs.Common.{◌≡◌, map, length}
use Rattle.tsn_branch.specs.Loads.{link_in, shared_link, shared_upto}
use Rattle.tsn_branch.proofs.loads.Loads.of.Given as goal

abbrev pub invariant-loop-link : goal.invariant-loop-link
invariant-loop-link l = record {
  upto : map link_in l.tables.items ≡ map (shared_link l.timing) (shared_upto l.timing l.link);
  end : l.link-end ≡ length l.timing.links;
}
