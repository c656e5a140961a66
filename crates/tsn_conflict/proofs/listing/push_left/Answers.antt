use Rattle.std.proofs.Common.{arith, append_assoc, append-nil}
use Rattle.tsn_conflict.specs.Rows.{uses_in}
use Rattle.tsn_conflict.proofs.Reading.{row_kept}
use Rattle.tsn_conflict.proofs.Shared.{all_kept}
use Rattle.tsn_conflict.proofs.Triples.{none_earlier, left_more}
use Rattle.tsn_conflict.proofs.listing.push_left.Goals as goal

pub loop-right-init : goal.loop-right-init
loop-right-init c = grind (arith, none_earlier, append-nil)

pub loop-right-preserved : goal.loop-right-preserved
loop-right-preserved c = grind (arith, append_assoc, left_more)

pub used_of-requires-clause-stream : goal.used_of-requires-clause-stream
used_of-requires-clause-stream c = row_kept c.args.timing.now (uses_in c.args.rows.now) c.args.left c.requires.rows c.requires.left

pub used_of-requires-clause-links : goal.used_of-requires-clause-links
used_of-requires-clause-links c = rw c.requires.links (all_kept c.args.timing.now (uses_in c.args.rows.now) c.requires.rows c.args.left c.requires.left)
