use Rattle.std.proofs.Common.{◌≡◌, filter, take}
use Rattle.tsn_conflict.specs.Rows.{is_kept, uses_in}
use Rattle.tsn_conflict.proofs.uses.used_of.Given as goal

abbrev pub invariant-loop-link : goal.invariant-loop-link
invariant-loop-link l = l.used.items ≡ filter (is_kept (uses_in l.rows) l.stream) (take l.link-index l.links)
