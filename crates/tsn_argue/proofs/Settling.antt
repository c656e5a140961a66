-- When the goal is settled, and what the goal adds to the ground.
use Rattle.std.proofs.Common.{◌≡◌, ℕ, List, length, ℤ, pos, ◌≤ℤ◌, ◌<ℤ◌, true, false, refl, sym, subst, inl, inr, arith}
use Rattle.std.specs.Prelude.{Result, Ok, Err, OnOk, Option, Some, None, int_le}
use Rattle.std.specs.Borrow.{Bor}
use Rattle.std.proofs.lemmas.Int.{ints}
use Rattle.tsn_model.specs.Network.{Network, stream_count}
use Rattle.tsn_model.specs.Schedule.{flowspan}
use Rattle.tsn_model.specs.Argument as model
use Rattle.tsn_model.specs.Argument.{goal_first, goal_least, goal_none, IsImpossible, IsPlanAlone, IsSettled, settled, capped}
use Rattle.tsn_argue.specs.State.{view_of, IsSound, Becomes}
use Rattle.tsn_argue.specs.Steps.{goal_of, capped_view, FindsBelow, FindsOpen}
use Rattle.tsn_argue.specs.declared.aim.Aim.{Aim}
use Rattle.tsn_argue.specs.declared.aim.Aim.TheVariants as aim
use Rattle.tsn_check.specs.declared.argument.Open.{Open}
use Rattle.tsn_argue.specs.declared.view.View.{View}

int_le-yes : (a b : ℤ) → a ≤ℤ b → int_le a b ≡ true
int_le-yes a b is = grind (arith, ints)

int_le-no : (a b : ℤ) → b <ℤ a → int_le a b ≡ false
int_le-no a b is = grind (arith, ints)

-- nothing is added before the flowspan is known
pub settled_not : (network : Network) (plan : List ℕ) (view : model.View) → view.done_low <ℤ pos (flowspan network plan)
    → settled network (goal_first plan) view ≡ view
unfolding settled
settled_not network plan view below = rw (int_le-no (pos (flowspan network plan)) view.done_low below) refl

pub settled_on : (network : Network) (plan : List ℕ) (view : model.View) → pos (flowspan network plan) ≤ℤ view.done_low
    → settled network (goal_first plan) view ≡ capped_view plan view
unfolding settled
settled_on network plan view known = rw (int_le-yes (pos (flowspan network plan)) view.done_low known) refl

-- where the aim is another one, nothing is added
pub settled_other : (network : Network) (a : Aim) (view : model.View) → ((plan : Bor (List ℕ)) (span : ℕ) → a ≡ aim.First plan span → ⊥)
    → settled network (goal_of a) view ≡ view
unfolding settled
settled_other network (aim.First plan span) view other = absurd (other plan span refl)
settled_other network (aim.Least plan span) view other = refl
settled_other network aim.None view other = refl

-- the state stays where the view does
pub same_view : (old : View) (after : model.View) → IsSound old → after ≡ view_of old → Becomes old old after
same_view old after sound same = record { sound = sound; network = refl; base = refl; view = sym same }

pub on_same : {E : Type 0} (old new : View) (after other : model.View) (r : Result Unit E) → after ≡ other → OnOk r (Becomes old new after)
    → OnOk r (Becomes old new other)
on_same old new after other (Err e) same become = tt
on_same old new after other (Ok u) same become = subst (Becomes old new) same become

-- ---- the end

-- where the flowspan can't be below that of the plan, the streams tell what is left
pub open_first : (network : Network) (plan : List ℕ) (view : model.View) (found : Option Open) → length plan ≡ stream_count network
    → (IsImpossible network view → ⊥) → pos (flowspan network plan) ≤ℤ view.done_low → FindsBelow plan view found
    → FindsOpen network (goal_first plan) view found
open_first network plan view None count possible done reaches = inr (done, λ i below. reaches i (omega arith))
open_first network plan view (Some left) count possible done is =
    let there = is.1.there in (
      λ settles. elim settles [
        | inl past ↦ possible past
        | inr alone ↦
            let reached = alone.1 is.0 (omega (arith, there, count)) in
            let below = is.1.below in
            omega (arith, ints, reached, below)
      ],
      inr (done, is),
    )
