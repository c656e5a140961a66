use Rattle.std.proofs.Common.{◌≡◌, length, map}
use Rattle.std.specs.List.{range_with_len}
use Rattle.tsn_conflict.specs.Kept.{use_at}
use Rattle.tsn_conflict.proofs.uses.row_of.Given as goal

abbrev pub invariant-loop-link : goal.invariant-loop-link
invariant-loop-link l = record {
  so_far : l.uses.items ≡ map (use_at l.timing l.stream) (range_with_len 0 l.link);
  end : l.link-end ≡ length l.timing.links;
}
