use Rattle.std.proofs.Common.{◌≡◌, length}
use Rattle.std.specs.List.{range_with_len}
use Rattle.tsn_conflict.proofs.uses.links_of.Given as goal

abbrev pub invariant-loop-link : goal.invariant-loop-link
invariant-loop-link l = record {
  so_far : l.links.items ≡ range_with_len 0 l.link;
  end : l.link-end ≡ length l.timing.links;
}
