use Rattle.std.proofs.Common.{arith}
use Rattle.std.proofs.lemmas.Grind.{common_steps}
use Rattle.tsn_book.proofs.Closing.{leaf_marked, parent_marked}
use Rattle.tsn_book.proofs.arena.Tree.mark.Goals as goal

pub loop-parent-init : goal.loop-parent-init
loop-parent-init c =
    leaf_marked c.requires.tree c.args.closed.now c.args.leaf c.requires.leaf

pub loop-parent-preserved : goal.loop-parent-preserved
loop-parent-preserved c =
    parent_marked c.requires.tree c.loop-parent.closed c.in-Some.parent c.loop-parent.place c.loop-parent.invariant c.in-Some.ensures.1

pub next_closed-requires-clause-closing : goal.next_closed-requires-clause-closing
next_closed-requires-clause-closing c = grind (arith, common_steps) steps 2000000
