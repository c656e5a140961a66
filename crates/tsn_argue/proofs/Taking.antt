-- What becomes of a step, put together from its parts.
use Rattle.std.proofs.Common.{◌≡◌, ◌≢◌, ◌⊎◌, List, [], map, Bool, true, false, All, refl, sym, ap, ◌∙◌, subst, inl, inr}
use Rattle.std.specs.Prelude.{MatchBool}
use Rattle.tsn_model.specs.Argument as model
use Rattle.tsn_model.specs.Argument.{IsFact, IsImpossible, IsRight, opposite, learned, learned_all, narrowed, AreAllowed, begun, ended}
use Rattle.tsn_argue.specs.Faults.{IsFactFault, IsMoveFault, IsWrongStep}
use Rattle.tsn_argue.specs.State.{view_of, base_of, IsSound, Becomes}
use Rattle.tsn_argue.specs.Steps.{known_on}
use Rattle.tsn_argue.specs.declared.view.View.{View}
use Rattle.tsn_check.specs.declared.argument.StepFault.{StepFault}
use Rattle.tsn_check.specs.declared.argument.StepFault.TheVariants as of_step

-- one change after another
pub then_becomes : (old mid new : View) (between after : model.View) → Becomes old mid between → Becomes mid new after → Becomes old new after
then_becomes old mid new between after first second = record {
  sound = second.sound;
  network = second.network ∙ first.network;
  base = second.base ∙ first.base;
  view = second.view;
}

-- what a flag tells
flag_no : (b : Bool) (P : Type 0) → MatchBool b P (P → ⊥) → b ≡ false → P → ⊥
flag_no true P told is p = absurd (cc)
flag_no false P told is p = told p

flag_yes : (b : Bool) (P : Type 0) → MatchBool b P (P → ⊥) → b ≡ true → P
flag_yes true P told is = told
flag_yes false P told is = absurd (cc)

pub possible : (v : View) → IsSound v → v.crossed ≡ false → IsImpossible v.timing.now (view_of v) → ⊥
possible v sound is = flag_no v.crossed (IsImpossible v.timing.now (view_of v)) sound.crossed is

pub impossible : (v : View) → IsSound v → v.crossed ≡ true → IsImpossible v.timing.now (view_of v)
impossible v sound is = flag_yes v.crossed (IsImpossible v.timing.now (view_of v)) sound.crossed is

module _ (old : View) (sound : IsSound old) (ready : view_of old ≡ base_of old) (clauses : List (List model.Fact)) (step : model.Step) where
  -- the ground isn't impossible where the view isn't
  ground_open : old.crossed ≡ false → IsImpossible old.timing.now (base_of old) → ⊥
  ground_open is past = possible old sound is (subst (IsImpossible old.timing.now) (sym ready) past)

  begins : (mid : View) → Becomes old mid (learned_all (view_of old) (map opposite step.clause)) → view_of mid ≡ begun (known_on old clauses) step
  unfolding begun
  begins mid supposed = supposed.view ∙ ap (λ v. learned_all v (map opposite step.clause)) ready

  pub wrong_fact_step : (fault : StepFault) → old.crossed ≡ false → IsFactFault old.timing.now step.clause fault
      → IsWrongStep old.timing.now (known_on old clauses) step fault
  wrong_fact_step fault is wrong = inr (inl (ground_open is, wrong))

  pub wrong_move_step : (mid : View) (fault : StepFault) → old.crossed ≡ false → All (IsFact old.timing.now) step.clause
      → Becomes old mid (learned_all (view_of old) (map opposite step.clause))
      → IsMoveFault mid.timing.now clauses (view_of mid) step.moves fault
      → IsWrongStep old.timing.now (known_on old clauses) step fault
  wrong_move_step mid fault is facts supposed wrong = inr (inr (inl (
    ground_open is,
    facts,
    subst (λ v. IsMoveFault old.timing.now clauses v step.moves fault) (begins mid supposed)
        (subst (λ n. IsMoveFault n clauses (view_of mid) step.moves fault) supposed.network wrong),
  )))

  -- the moves of a step
  allowed_on : (mid : View) → Becomes old mid (learned_all (view_of old) (map opposite step.clause))
      → AreAllowed mid.timing.now clauses (view_of mid) step.moves
      → AreAllowed old.timing.now clauses (begun (known_on old clauses) step) step.moves
  allowed_on mid supposed allowed =
      subst (λ v. AreAllowed old.timing.now clauses v step.moves) (begins mid supposed)
      (subst (λ n. AreAllowed n clauses (view_of mid) step.moves) supposed.network allowed)

  ends : (mid new : View) → Becomes old mid (learned_all (view_of old) (map opposite step.clause))
      → Becomes mid new (narrowed mid.timing.now clauses (view_of mid) step.moves)
      → Becomes old new (ended old.timing.now (known_on old clauses) step)
  unfolding ended
  ends mid new supposed made = record {
    sound = made.sound;
    network = made.network ∙ supposed.network;
    base = made.base ∙ supposed.base;
    view = made.view ∙ ap (λ n. narrowed n clauses (view_of mid) step.moves) supposed.network
        ∙ ap (λ v. narrowed old.timing.now clauses v step.moves) (begins mid supposed);
  }

  last_impossible : (new : View) → Becomes old new (ended old.timing.now (known_on old clauses) step) → new.crossed ≡ true
      → IsImpossible old.timing.now (ended old.timing.now (known_on old clauses) step)
  last_impossible new become is =
      subst (IsImpossible old.timing.now) become.view (subst (λ n. IsImpossible n (view_of new)) become.network (impossible new become.sound is))

  last_possible : (new : View) → Becomes old new (ended old.timing.now (known_on old clauses) step) → new.crossed ≡ false
      → IsImpossible old.timing.now (ended old.timing.now (known_on old clauses) step) → ⊥
  last_possible new become is past =
      possible new become.sound is (subst (λ n. IsImpossible n (view_of new)) (sym become.network) (subst (IsImpossible old.timing.now) (sym become.view) past))

  pub right_step : (mid new : View) → old.crossed ≡ false → All (IsFact old.timing.now) step.clause
      → Becomes old mid (learned_all (view_of old) (map opposite step.clause)) → AreAllowed mid.timing.now clauses (view_of mid) step.moves
      → Becomes mid new (narrowed mid.timing.now clauses (view_of mid) step.moves) → (new.crossed ≡ true) ⊎ (step.clause ≡ [])
      → IsRight old.timing.now (known_on old clauses) step × Becomes old new (ended old.timing.now (known_on old clauses) step)
  right_step mid new is facts supposed allowed made shows =
      let become = ends mid new supposed made in (
        record {
          open_ground = ground_open is;
          facts = facts;
          moves = allowed_on mid supposed allowed;
          shows = elim shows [ inl crossed ↦ inr (last_impossible new become crossed) | inr empty ↦ inl empty ];
        },
        become,
      )

  pub failed_step : (mid new : View) → old.crossed ≡ false → All (IsFact old.timing.now) step.clause
      → Becomes old mid (learned_all (view_of old) (map opposite step.clause)) → AreAllowed mid.timing.now clauses (view_of mid) step.moves
      → Becomes mid new (narrowed mid.timing.now clauses (view_of mid) step.moves) → new.crossed ≡ false → step.clause ≢ []
      → IsWrongStep old.timing.now (known_on old clauses) step of_step.Unshown
  failed_step mid new is facts supposed allowed made left some =
      inr (inr (inr (ground_open is, facts, allowed_on mid supposed allowed, some, last_possible new (ends mid new supposed made) left, refl)))
