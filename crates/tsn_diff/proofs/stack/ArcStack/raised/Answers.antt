use Rattle.std.proofs.Common.{arith}
use Rattle.std.proofs.lemmas.Grind.{common_steps}
use Rattle.tsn_diff.specs.Stack.{last_mark}
use Rattle.tsn_diff.proofs.Layers.{noted_below}
use Rattle.tsn_diff.proofs.Stacks.{AreRaisedLast-stack}
use Rattle.tsn_diff.proofs.stack.ArcStack.raised.Goals as goal

pub returns-clause-below : goal.returns-clause-below
returns-clause-below c = rw (← c.self.view_is) (noted_below _ (last_mark c.self.inside.listing.marks.items) c.self.inside.wave.trail c.self.invariant.noted)

pub returns-clause-last : goal.returns-clause-last
returns-clause-last c = rw (← c.self.view_is) (AreRaisedLast-stack _ _ _ _ _ c.self.invariant)

pub offset_bounds-deref-mark : goal.offset_bounds-deref-mark
offset_bounds-deref-mark c = grind (arith, common_steps) steps 2000000

pub slice_bounds-result-count : goal.slice_bounds-result-count
slice_bounds-result-count c = grind (arith, common_steps) steps 2000000

pub slice_bounds-result-start : goal.slice_bounds-result-start
slice_bounds-result-start c = grind (arith, common_steps) steps 2000000

pub slice_bounds-result-end : goal.slice_bounds-result-end
slice_bounds-result-end c = grind (arith, common_steps) steps 2000000

pub returns-clause-value : goal.returns-clause-value
returns-clause-value c = grind (arith, common_steps) steps 2000000
