-- A right argument shows its goal: what is known after each step holds of each schedule in question.
use Rattle.std.proofs.Common.{◌≡◌, ℕ, zero, suc, ◌≤◌, ◌<◌, ◌⊎◌, List, [], ◌∷◌, map, length, get_or, All, ℤ, pos, ◌≤ℤ◌, true, sym, ap, ◌∙◌, subst, arith, inl, inr}
use Rattle.std.specs.Prelude.{int_le}
use Rattle.std.proofs.lemmas.Int.{ints, clamps}
use Rattle.std.proofs.lemmas.Bool.{cases_lt, cond_both}
use Rattle.std.proofs.lemmas.List.FromFn.{get_or-map-range_with_len}
use Rattle.std.proofs.lemmas.List.Elements.{All-nil, All-cons, All-head, All-tail, All-push}
use Rattle.tsn_model.specs.Network.{Network, IsWellFormed, stream_count, release_of}
use Rattle.tsn_model.specs.Schedule.{IsValid, offset_of, flowspan, IsOptimal, IsFirst, IsNotAfter, HasNoSchedule, latest_offset}
use Rattle.tsn_model.specs.Argument.{Goal, goal_first, goal_least, goal_none, IsInQuestion, Fact, order, IsFact, IsSo, SomeIsSo, opposite, View, Fits, learned, greatest_flowspan, first_ground, capped, settled, Step, Known, begun, ended, IsRight, known_with, known_after, IsPlanAlone, Concludes, Argues}
use Rattle.tsn_model.proofs.Lists.{Contains-head, Contains-more, Contains-cons_cases, Contains-nil}
use Rattle.tsn_model.proofs.ListOrder.{before_parts, ordered}
use Rattle.tsn_model.proofs.Schedules.{flowspan-le-cycle, span-le-period}
use Rattle.tsn_model.proofs.ArgumentViews.{Fits-learned, Fits-learned_all, none_fits, either_way}
use Rattle.tsn_model.proofs.ArgumentMoves.{Fits-narrowed}

-- ---- offsets that don't come after the plan

pub int_le-true : (a b : ℤ) → int_le a b ≡ true → a ≤ℤ b
int_le-true a b less = grind (arith, ints)

-- by their first numbers
not_after_parts : (o p : ℕ) (offsets plan : List ℕ) → IsNotAfter (o ∷ offsets) (p ∷ plan) → (o ≤ p) × (o ≡ p → IsNotAfter offsets plan)
not_after_parts o p offsets plan (inl same) =
    let first : o ≡ p = cc in
    let rest : offsets ≡ plan = cc in
    (omega arith, λ is. inl rest)
not_after_parts o p offsets plan (inr before) = elim (before_parts o p offsets plan before.0 before.1 before.2 before.3 before.4) [
  | inl less ↦ (omega arith, λ is. absurd (omega arith))
  | inr later ↦ (omega arith, λ is. inr later.1)
]

-- each is at most the plan's as long as those before it can't be less
capped-above : (offsets plan : List ℕ) (lows highs : List ℤ) → IsNotAfter offsets plan
    → ((i : ℕ) → i < length offsets → get_or lows i (pos 0) ≤ℤ pos (offset_of offsets i))
    → ((i : ℕ) → i < length offsets → pos (offset_of offsets i) ≤ℤ get_or highs i (pos 0))
    → (i : ℕ) → i < length offsets → pos (offset_of offsets i) ≤ℤ get_or (capped plan lows highs) i (pos 0)
unfolding capped
capped-above [] plan lows highs not_after low high i below = absurd (omega arith)
capped-above (o ∷ offsets) [] lows highs not_after low high i below = high i below
capped-above (o ∷ offsets) (p ∷ plan) [] highs not_after low high i below = high i below
capped-above (o ∷ offsets) (p ∷ plan) (l ∷ lows) [] not_after low high i below = high i below
capped-above (o ∷ offsets) (p ∷ plan) (l ∷ lows) (h ∷ highs) not_after low high zero below =
    let parts = not_after_parts o p offsets plan not_after in
    let most_plan = parts.0 in
    let most_view : pos o ≤ℤ h = high zero below in
    omega (arith, ints, clamps, most_plan, most_view)
capped-above (o ∷ offsets) (p ∷ plan) (l ∷ lows) (h ∷ highs) not_after low high (suc k) below =
    let parts = not_after_parts o p offsets plan not_after in
    let rest : pos (offset_of offsets k) ≤ℤ get_or highs k (pos 0) = high (suc k) below in
    cond_both (int_le (pos p) l) (capped plan lows highs) highs (λ ys. pos (offset_of offsets k) ≤ℤ get_or ys k (pos 0))
    (λ known.
    let least_plan = int_le-true (pos p) l known in
    let least_view : l ≤ℤ pos o = low zero (omega arith) in
    let most_plan = parts.0 in
    let same : o ≡ p = omega (arith, ints, least_plan, least_view, most_plan) in
    capped-above offsets plan lows highs (parts.1 same) (λ i inside. low (suc i) (omega arith)) (λ i inside. high (suc i) (omega arith)) k (omega arith))
    (λ unknown. rest)

module _ (network : Network) (formed : IsWellFormed network) (goal : Goal) (offsets : List ℕ) where
  -- what is known holds of the offsets
  record Knows (known : Known) : Type 0 where
    ground : Fits network offsets known.ground
    clauses : All (SomeIsSo network offsets) known.clauses

  -- ---- the ground

  flowspan-le-greatest : (goal : Goal) → IsInQuestion network goal offsets → pos (flowspan network offsets) ≤ℤ greatest_flowspan network goal
  unfolding greatest_flowspan
  flowspan-le-greatest (goal_first plan) asked = elim asked.against
      [ inl less ↦ omega (arith, ints, less) | inr even ↦ let same = even.0 in omega (arith, ints, same) ]
  flowspan-le-greatest (goal_least plan) asked = let less = asked.against in omega (arith, ints, less)
  flowspan-le-greatest goal_none asked = let within = flowspan-le-cycle network offsets asked.valid in omega (arith, ints, within)

  Fits-first : IsInQuestion network goal offsets → Fits network offsets (first_ground network goal)
  unfolding first_ground latest_offset
  Fits-first asked = record {
    low = λ i below.
        let is = get_or-map-range_with_len (λ i. pos (release_of network i)) 0 (stream_count network) i i (pos 0) below (omega arith) in
        let released = asked.valid.released i below in
        omega (arith, ints, is, released);
    high = λ i below.
        let is = get_or-map-range_with_len (latest_offset network) 0 (stream_count network) i i (pos 0) below (omega arith) in
        let within = span-le-period network offsets i asked.valid below in
        let in_time = asked.valid.in_time i below in
        omega (arith, ints, clamps, is, within, in_time);
    orders = All-nil (λ decision. IsSo network offsets (order decision));
    done_low = omega (arith, ints);
    done_high = flowspan-le-greatest goal asked;
  }

  Fits-settled : (goal : Goal) → IsInQuestion network goal offsets → (view : View) → Fits network offsets view
      → Fits network offsets (settled network goal view)
  unfolding settled
  Fits-settled (goal_first plan) asked view fits =
      cond_both (int_le (pos (flowspan network plan)) view.done_low) (record view { high = capped plan view.low view.high }) view (Fits network offsets)
      (λ known.
      let least_done = int_le-true (pos (flowspan network plan)) view.done_low known in
      let done = fits.done_low in
      elim asked.against [
        | inl less ↦ absurd (omega (arith, ints, less, least_done, done))
        | inr even ↦ record {
          low = fits.low;
          high = λ i below.
              capped-above offsets plan view.low view.high even.1
              (λ j inside. fits.low j (omega arith)) (λ j inside. fits.high j (omega arith)) i (omega arith);
          orders = fits.orders;
          done_low = fits.done_low;
          done_high = fits.done_high;
        }
      ])
      (λ unknown. fits)
  Fits-settled (goal_least plan) asked view fits = fits
  Fits-settled goal_none asked view fits = fits

  -- ---- steps

  -- some fact of a clause holds, or all their opposites do
  either_of : IsValid network offsets → (clause : List Fact) → All (IsFact network) clause
      → SomeIsSo network offsets clause ⊎ All (IsSo network offsets) (map opposite clause)
  either_of valid [] are = inr (All-nil (IsSo network offsets))
  either_of valid (fact ∷ clause) are = elim (either_way network formed offsets valid fact (All-head (IsFact network) fact clause are)) [
    | inl so ↦ inl (record { fact = fact; has = Contains-head fact clause; so = so })
    | inr other ↦ elim (either_of valid clause (All-tail (IsFact network) fact clause are)) [
      | inl some ↦ inl (record { fact = some.fact; has = Contains-more fact clause some.fact some.has; so = some.so })
      | inr others ↦ inr (All-cons (IsSo network offsets) (opposite fact) (map opposite clause) other others)
    ]
  ]

  -- of a right step's clause some fact holds, or the clause is empty and the offsets fit the step's last view
  clause_sound : IsInQuestion network goal offsets → (known : Known) → Knows known → (step : Step) → IsRight network known step
      → SomeIsSo network offsets step.clause ⊎ ((step.clause ≡ []) × Fits network offsets (ended network known step))
  unfolding ended begun
  clause_sound asked known knows step right = elim (either_of asked.valid step.clause right.facts) [
    | inl some ↦ inl some
    | inr others ↦
        let at_first = Fits-learned_all network offsets known.ground (map opposite step.clause) others knows.ground in
        let at_last : Fits network offsets (ended network known step) =
        Fits-narrowed network formed offsets asked.valid known.clauses knows.clauses step.moves (begun known step) at_first right.moves in
        elim right.shows [
          | inl empty ↦ inr (empty, at_last)
          | inr impossible ↦ absurd (none_fits network offsets (ended network known step) impossible at_last)
        ]
  ]

  only_so : (fact : Fact) → SomeIsSo network offsets (fact ∷ []) → IsSo network offsets fact
  only_so fact some = elim (Contains-cons_cases fact [] some.fact some.has) [
    | inl same ↦ subst (IsSo network offsets) (sym same) some.so
    | inr none ↦ absurd (Contains-nil some.fact none)
  ]

  Knows-with : IsInQuestion network goal offsets → (known : Known) → Knows known → (view : View) (clause : List Fact)
      → SomeIsSo network offsets clause ⊎ ((clause ≡ []) × Fits network offsets view) → Knows (known_with network goal known view clause)
  unfolding known_with
  Knows-with asked known knows view [] (inl some) = absurd (Contains-nil some.fact some.has)
  Knows-with asked known knows view [] (inr empty) = record { ground = Fits-settled goal asked view empty.1; clauses = knows.clauses }
  Knows-with asked known knows view (fact ∷ []) (inl some) = record {
    ground = Fits-settled goal asked (learned known.ground fact) (Fits-learned network offsets known.ground fact (only_so fact some) knows.ground);
    clauses = All-push (SomeIsSo network offsets) known.clauses (fact ∷ []) knows.clauses some;
  }
  Knows-with asked known knows view (fact ∷ []) (inr empty) = absurd (cc)
  Knows-with asked known knows view (fact ∷ other ∷ facts) (inl some) = record {
    ground = knows.ground;
    clauses = All-push (SomeIsSo network offsets) known.clauses (fact ∷ other ∷ facts) knows.clauses some;
  }
  Knows-with asked known knows view (fact ∷ other ∷ facts) (inr empty) = absurd (cc)

  -- what is known after a right step holds of each schedule in question
  Knows-after : IsInQuestion network goal offsets → (known : Known) → Knows known → (step : Step) → IsRight network known step
      → Knows (known_after network goal known step)
  unfolding known_after
  Knows-after asked known knows step right = Knows-with asked known knows (ended network known step) step.clause (clause_sound asked known knows step right)

  -- ---- arguments

  -- each schedule in question fits a view that settles the goal
  pub record Settles : Type 0 where
    pub view : View
    pub fits : Fits network offsets view
    pub settles : IsPlanAlone network goal view

  concludes : IsInQuestion network goal offsets → (steps : List Step) (known : Known) → Knows known → Concludes network goal known steps → Settles
  concludes asked [] known knows (inl impossible) = absurd (none_fits network offsets known.ground impossible knows.ground)
  concludes asked [] known knows (inr alone) = record { view = known.ground; fits = knows.ground; settles = alone }
  concludes asked (step ∷ steps) known knows right = concludes asked steps (known_after network goal known step)
      (Knows-after asked known knows step right.0) right.1

  pub argues : IsInQuestion network goal offsets → (steps : List Step) → Argues network goal steps → Settles
  argues asked steps argued =
      concludes asked steps (record { ground = first_ground network goal; clauses = [] })
      (record { ground = Fits-first asked; clauses = All-nil (SomeIsSo network offsets) }) argued

-- a schedule in question that is alone is the plan
pub plan_alone : (network : Network) (plan offsets : List ℕ) → IsInQuestion network (goal_first plan) offsets → (view : View)
    → Fits network offsets view → IsPlanAlone network (goal_first plan) view → offsets ≡ plan
plan_alone network plan offsets asked view fits alone = elim asked.against [
  | inl less ↦ let done = fits.done_low in let least_done = alone.0 in absurd (omega (arith, ints, less, done, least_done))
  | inr even ↦ elim even.1 [
    | inl same ↦ same
    | inr before ↦
        let counted : before.0 < stream_count network = omega arith in
        let low = fits.low before.0 counted in
        let least_plan = alone.1 before.0 counted in
        let less = before.4 in
        absurd (omega (arith, ints, low, least_plan, less))
  ]
]

pub argued_first : (network : Network) → IsWellFormed network → (offsets : List ℕ) → IsValid network offsets → (steps : List Step)
    → Argues network (goal_first offsets) steps → IsFirst network offsets
argued_first network formed offsets valid steps argued = record {
  optimal = record {
    valid = valid;
    least = λ other other_valid. elim (cases_lt (flowspan network other) (flowspan network offsets)) [
      | inr not_less ↦ not_less
      | inl less ↦
          let same = is_plan other (record { valid = other_valid; against = inl less }) in
          let spans : flowspan network other ≡ flowspan network offsets = ap (flowspan network) same in
          absurd (omega arith)
    ];
  };
  before_others = λ other other_valid same differs. elim (ordered offsets other (valid.count ∙ sym other_valid.count)) [
    | inl is ↦ absurd (differs (sym is))
    | inr (inl before) ↦ before
    | inr (inr after) ↦ absurd (differs (is_plan other (record { valid = other_valid; against = inr (same, inr after) })))
  ];
}
  where
    is_plan : (other : List ℕ) → IsInQuestion network (goal_first offsets) other → other ≡ offsets
    is_plan other asked =
        let found = argues network formed (goal_first offsets) other asked steps argued in
        plan_alone network offsets other asked found.view found.fits found.settles

pub argued_optimal : (network : Network) → IsWellFormed network → (offsets : List ℕ) → IsValid network offsets → (steps : List Step)
    → Argues network (goal_least offsets) steps → IsOptimal network offsets
argued_optimal network formed offsets valid steps argued = record {
  valid = valid;
  least = λ other other_valid. elim (cases_lt (flowspan network other) (flowspan network offsets)) [
    | inr not_less ↦ not_less
    | inl less ↦
        let found = argues network formed (goal_least offsets) other (record { valid = other_valid; against = less }) steps argued in
        absurd found.settles
  ];
}

pub argued_none : (network : Network) → IsWellFormed network → (steps : List Step) → Argues network goal_none steps → HasNoSchedule network
argued_none network formed steps argued = record {
  none = λ offsets valid.
      let found = argues network formed goal_none offsets (record { valid = valid; against = tt }) steps argued in
      found.settles;
}
