use Rattle.std.proofs.Common.{refl, ◌∙◌, arith}
use Rattle.std.proofs.lemmas.Grind.{common_steps}
use Rattle.tsn_diff.specs.Labels.{labelling_of}
use Rattle.tsn_diff.specs.Stack.{IsStack}
use Rattle.tsn_diff.proofs.Solutions.{Solves-settled}
use Rattle.tsn_diff.proofs.Stacks.{IsStart-pushed, IsStack-opened, IsStack-closed, IsStack-pushed, RisesAt-pushed, Solves-back}
use Rattle.tsn_diff.proofs.stack.ArcStack.push.Goals as goal

pub put_in-requires : goal.put_in-requires
put_in-requires c =
    let s = IsStack-opened _ _ _ _ _ c.self-inside.invariant.forest (rw (← c.self-inside.view_is) at c.self.invariant) in
    let view = rw (← c.self-inside.view_is) at c.self.view_is in
    (IsStart-pushed _ _ _ _ _ s c.args.arc (rw (← view) at c.requires), refl)

-- the stack with the arc put in
pushed : (c : goal.In-Ok-None) → IsStack c.self-inside.inside.0.0.net c.put_in.new.arcs.items (labelling_of c.put_in.new.labels) c.put_in.new.listing c.put_in.new.wave.trail
pushed c =
    let s = IsStack-opened _ _ _ _ _ c.self-inside.invariant.forest (rw (← c.self-inside.view_is) at c.self.invariant) in
    let view = rw (← c.self-inside.view_is) at c.self.view_is in
    let none = c.in-Ok-None.field-0-is in
    let arcs = rw none at c.in-Ok-None.ensures.arcs in
    rw arcs (IsStack-pushed _ _ _ _ _ s c.args.arc (labelling_of c.put_in.new.labels) c.put_in.new.listing c.put_in.new.wave.trail c.put_in.ensures.noted (rw none at c.in-Ok-None.ensures.wide) (rw none at c.in-Ok-None.ensures.marks) (rw (← view) at c.requires) (rw arcs at c.put_in.ensures.listed))

pub invariant_of-self : goal.invariant_of-self
invariant_of-self c = IsStack-closed _ _ _ _ _ (pushed c)

pub invariant_of-self-inside : goal.invariant_of-self-inside
invariant_of-self-inside c = (pushed c).layered.settles

pub returns-in-Ok-None-clause-raised : goal.returns-in-Ok-None-clause-raised
returns-in-Ok-None-clause-raised c =
    let s = IsStack-opened _ _ _ _ _ c.self-inside.invariant.forest (rw (← c.self-inside.view_is) at c.self.invariant) in
    let view = rw (← c.self-inside.view_is) at c.self.view_is in
    let none = c.in-Ok-None.field-0-is in
    rw (← view) (RisesAt-pushed _ _ _ _ _ s c.args.arc (labelling_of c.put_in.new.labels) c.put_in.new.listing c.put_in.new.wave.trail c.put_in.ensures.noted (rw none at c.in-Ok-None.ensures.wide) (rw none at c.in-Ok-None.ensures.marks))

pub returns-in-Ok-None-clause-solved_before : goal.returns-in-Ok-None-clause-solved_before
returns-in-Ok-None-clause-solved_before c = let view = rw (← c.self-inside.view_is) at c.self.view_is in rw (← view) (Solves-settled _ _ _ c.self-inside.invariant)

pub returns-in-Ok-None-clause-solved : goal.returns-in-Ok-None-clause-solved
returns-in-Ok-None-clause-solved c = Solves-settled _ _ _ (invariant_of-self-inside c)

pub returns-in-Ok-Some-clause-solved_before : goal.returns-in-Ok-Some-clause-solved_before
returns-in-Ok-Some-clause-solved_before c = let view = rw (← c.self-inside.view_is) at c.self.view_is in rw (← view) (Solves-settled _ _ _ c.self-inside.invariant)

pub returns-in-Ok-Some-clause-solved : goal.returns-in-Ok-Some-clause-solved
returns-in-Ok-Some-clause-solved c =
    let refused = rw c.in-Ok-Some.field-0-is at c.in-Ok-Some.ensures.refused in
    let mark = c.len-mark.ensures ∙ c.self-inside.inside.0.1.1.0.trail.formers.ok.0 in
    Solves-back _ _ _ _ _ refused.0 (rw mark at c.put_back.ensures.labels ∙ c.put_in.ensures.noted.back) c.self-inside.invariant

pub returns-in-Err-clause-solved_before : goal.returns-in-Err-clause-solved_before
returns-in-Err-clause-solved_before c = let view = rw (← c.self-inside.view_is) at c.self.view_is in rw (← view) (Solves-settled _ _ _ c.self-inside.invariant)

pub returns-in-Err-clause-solved : goal.returns-in-Err-clause-solved
returns-in-Err-clause-solved c =
    let mark = c.len-mark.ensures ∙ c.self-inside.inside.0.1.1.0.trail.formers.ok.0 in
    Solves-back _ _ _ _ _ c.in-Err.ensures.err.0 (rw mark at c.put_back-in-Err.ensures.labels ∙ c.put_in.ensures.noted.back) c.self-inside.invariant

pub put_back-requires-clause-mark : goal.put_back-requires-clause-mark
put_back-requires-clause-mark c = grind (arith, common_steps) steps 2000000

pub put_back-requires-in-Err-clause-mark : goal.put_back-requires-in-Err-clause-mark
put_back-requires-in-Err-clause-mark c = grind (arith, common_steps) steps 2000000
