use Rattle.std.proofs.Common.{length, ◌-◌}
use Rattle.tsn_book.specs.Arena.{paths_of, history_of}
use Rattle.tsn_book.specs.Spelling.{IsWalk}
use Rattle.tsn_book.proofs.spelling.order_of.Given as goal

abbrev pub invariant-loop-place : goal.invariant-loop-place
invariant-loop-place l = IsWalk (paths_of l.tree.places.origins) (history_of l.tree.places.origins l.tree.events.items) l.stack.items l.order.items

abbrev pub decreases-loop-place : goal.decreases-loop-place
decreases-loop-place l = length l.tree.events.items - length l.order.items
