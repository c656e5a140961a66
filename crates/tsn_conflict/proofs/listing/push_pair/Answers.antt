use Rattle.std.proofs.Common.{arith, append-nil, eqb-true}
use Rattle.std.proofs.lemmas.List.{nil_from_length, take_all}
use Rattle.tsn_conflict.specs.Rows.{uses_in}
use Rattle.tsn_conflict.proofs.Reading.{row_kept}
use Rattle.tsn_conflict.proofs.Shared.{used_kept, pair_shared}
use Rattle.tsn_conflict.proofs.listing.push_pair.Goals as goal

pub used_of-requires-clause-stream : goal.used_of-requires-clause-stream
used_of-requires-clause-stream c = row_kept c.args.timing.now (uses_in c.args.rows.now) c.args.right c.requires.rows c.requires.right

pub used_of-requires-clause-links : goal.used_of-requires-clause-links
used_of-requires-clause-links c = rw c.requires.used (used_kept c.args.timing.now (uses_in c.args.rows.now) c.requires.rows c.args.left c.args.right
    c.requires.right)

pub returns-then-is_empty : goal.returns-then-is_empty
returns-then-is_empty c = grind (arith, eqb-true, nil_from_length, pair_shared, append-nil)

pub returns : goal.returns
returns c = grind (arith, take_all, pair_shared)
