use Rattle.std.proofs.Common.{sym, ◌∙◌}
use Rattle.tsn_diff.specs.Labels.{labelling_of}
use Rattle.tsn_diff.specs.Stack.{IsStack}
use Rattle.tsn_diff.proofs.Listings.{front_same}
use Rattle.tsn_diff.proofs.Stacks.{IsStack-opened, IsStack-closed, IsStack-popped, KeepsOthers-popped}
use Rattle.tsn_diff.proofs.stack.ArcStack.pop.Goals as goal

-- the stack with the last arc out
popped : (c : goal.After-put_back) → IsStack c.self-inside.inside.0.0.net c.pop.new.self.items (labelling_of c.put_back.new.labels) c.pop-mark.new.self c.put_back.new.self
popped c =
    let s = IsStack-opened _ _ _ _ _ c.self-inside.invariant.forest (rw (← c.self-inside.view_is) at c.self.invariant) in
    let all = rw c.unwrap-arc.ensures at c.pop.ensures.items in
    let mark = c.pop-mark.ensures.mark in
    IsStack-popped _ _ _ _ _ s (labelling_of c.put_back.new.labels) c.pop-mark.new.self c.put_back.new.self (rw mark at c.put_back.ensures.labels) c.pop.new.self.items c.unwrap-arc.result all c.pop-mark.ensures.marks
    ((rw s.listed.count at c.pop-mark.ensures.listing) c.pop.new.self.items (rw all at s.listed)) (rw mark at c.put_back.ensures.formers) (rw s.layered.settles.raised.count at c.put_back.ensures.trail)

pub invariant_of-self : goal.invariant_of-self
invariant_of-self c = IsStack-closed _ _ _ _ _ (popped c)

pub invariant_of-self-inside : goal.invariant_of-self-inside
invariant_of-self-inside c = (popped c).layered.settles

pub returns-clause-arcs : goal.returns-clause-arcs
returns-clause-arcs c =
    let view = rw (← c.self-inside.view_is) at c.self.view_is in
    λ before last is.
    front_same c.pop.new.self.items before c.unwrap-arc.result last (sym (rw c.unwrap-arc.ensures at c.pop.ensures.items) ∙ (rw (← view) at is))

pub returns-clause-others : goal.returns-clause-others
returns-clause-others c =
    let s = IsStack-opened _ _ _ _ _ c.self-inside.invariant.forest (rw (← c.self-inside.view_is) at c.self.invariant) in
    let view = rw (← c.self-inside.view_is) at c.self.view_is in
    let mark = c.pop-mark.ensures.mark in
    rw (← view) (KeepsOthers-popped _ _ _ _ _ s (labelling_of c.put_back.new.labels) c.pop-mark.new.self c.put_back.new.self (rw mark at c.put_back.ensures.labels))
