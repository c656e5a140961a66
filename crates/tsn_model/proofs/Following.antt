-- How what a history keeps changes with one more settlement.
use Rattle.std.proofs.Common.{◌≡◌, ◌≢◌, ℕ, ◌+◌, ◌<◌, ◌≤◌, min, List, [], ◌∷◌, ◌++◌, map, filter, fold, All, refl, sym, ap, ◌∙◌, subst, arith, Some, None}
use Rattle.std.specs.Prelude.{◌==◌}
use Rattle.std.proofs.lemmas.Bool.{ne_eqb, eq-eqb}
use Rattle.std.proofs.lemmas.List.{append-nil, map-append}
use Rattle.std.proofs.lemmas.List.Elements.{All-head, All-contains, filter-append}
use Rattle.std.proofs.lemmas.Grind.{fold-append}
use Rattle.tsn_model.specs.Network.{Network}
use Rattle.tsn_model.specs.Schedule.{earlier, first_of}
use Rattle.tsn_model.specs.Certificate.{Leaf}
use Rattle.tsn_model.specs.Search.{Outcome, split, solved, pruned, tied, refuted, Settlement, solved_bound, solved_bounds, solution_of, solutions, kept_of, least_or_none, best_bound, settled_by}
use Rattle.tsn_model.proofs.SearchLists.{flat_map-snoc, filter-kept, filter-dropped}
use Rattle.tsn_model.proofs.Numbers.{fold-min-snoc}
use Rattle.tsn_model.proofs.BestBounds.{best-le-solved}
use Rattle.tsn_model.proofs.Kept.{nil-from_none, offsets_with, with-from, solution_among, kept-is}

pub solved_bounds-snoc : (history : List Settlement) (settlement : Settlement) → solved_bounds (history ++ settlement ∷ []) ≡ solved_bounds history ++ solved_bound settlement.event.outcome
unfolding solved_bounds
solved_bounds-snoc history settlement = flat_map-snoc (λ (s : Settlement). solved_bound s.event.outcome) history settlement

solutions-snoc : (history : List Settlement) (settlement : Settlement) → solutions (history ++ settlement ∷ []) ≡ solutions history ++ solution_of settlement.event.outcome
unfolding solutions
solutions-snoc history settlement = flat_map-snoc (λ (s : Settlement). solution_of s.event.outcome) history settlement

-- a solved leaf lowers the least flowspan to its own, and no other outcome changes it
pub best-solved : (network : Network) (history : List Settlement) (settlement : Settlement) (offsets : List ℕ) (bound : ℕ) (leaf : Leaf) (chains : List (List ℕ)) → settlement.event.outcome ≡ solved offsets bound leaf chains
    → best_bound network (history ++ settlement ∷ []) ≡ min (best_bound network history) bound
unfolding best_bound least_or_none solved_bound
best-solved network history settlement offsets bound leaf chains is =
    ap (fold min (network.cycle + 1)) (solved_bounds-snoc history settlement ∙ ap (λ o. solved_bounds history ++ solved_bound o) is)
    ∙ fold-min-snoc (network.cycle + 1) (solved_bounds history) bound

pub best-unsolved : (network : Network) (history : List Settlement) (settlement : Settlement) → solved_bound settlement.event.outcome ≡ [] → best_bound network (history ++ settlement ∷ []) ≡ best_bound network history
unfolding best_bound least_or_none
best-unsolved network history settlement none =
    ap (fold min (network.cycle + 1)) (solved_bounds-snoc history settlement ∙ ap (λ bs. solved_bounds history ++ bs) none ∙ append-nil (solved_bounds history))

-- ---- the solved leaves of one flowspan

with-append : (bound : ℕ) (xs ys : List (List ℕ × ℕ)) → offsets_with bound (xs ++ ys) ≡ offsets_with bound xs ++ offsets_with bound ys
unfolding offsets_with
with-append bound xs ys =
    let test = λ (solution : List ℕ × ℕ). solution.1 == bound in
    ap (map (λ (solution : List ℕ × ℕ). solution.0)) (filter-append test xs ys) ∙ map-append (λ (solution : List ℕ × ℕ). solution.0) (filter test xs) (filter test ys)

with-one : (offsets : List ℕ) (bound : ℕ) → offsets_with bound ((offsets, bound) ∷ []) ≡ offsets ∷ []
unfolding offsets_with
with-one offsets bound = ap (map (λ (solution : List ℕ × ℕ). solution.0)) (filter-kept (λ (solution : List ℕ × ℕ). solution.1 == bound) (offsets, bound) [] (eq-eqb bound bound refl))

with-other : (offsets : List ℕ) (bound other : ℕ) → bound ≢ other → offsets_with other ((offsets, bound) ∷ []) ≡ []
unfolding offsets_with
with-other offsets bound other apart = ap (map (λ (solution : List ℕ × ℕ). solution.0)) (filter-dropped (λ (solution : List ℕ × ℕ). solution.1 == other) (offsets, bound) [] (ne_eqb bound other apart))

-- nothing that was solved is below the least flowspan
none_below : (network : Network) (history : List Settlement) (bound : ℕ) → bound < best_bound network history → offsets_with bound (solutions history) ≡ []
none_below network history bound less =
    nil-from_none (offsets_with bound (solutions history)) (λ offsets found.
    let among = solution_among history (offsets, bound) (with-from bound (solutions history) offsets found) in
    let low = All-contains (λ b. best_bound network history ≤ b) (solved_bounds history) bound (best-le-solved network history) among in
    omega (arith, low, less))

first_of-snoc : (lists : List (List ℕ)) (xs first : List ℕ) → first_of lists ≡ Some first → first_of (lists ++ xs ∷ []) ≡ Some (earlier first xs)
unfolding first_of
first_of-snoc [] xs first is = let clash : None ≡ Some first = is in cc
first_of-snoc (ys ∷ lists) xs first is =
    let same : fold earlier ys lists ≡ first = cc in
    ap Some (fold-append earlier ys lists (xs ∷ []) ∙ ap (λ zs. earlier zs xs) same)

-- ---- what is kept

-- an event that solves nothing keeps what was kept
pub kept-unsolved : (network : Network) (history : List Settlement) (settlement : Settlement) → solved_bound settlement.event.outcome ≡ [] → solution_of settlement.event.outcome ≡ [] → kept_of network (history ++ settlement ∷ []) ≡ kept_of network history
kept-unsolved network history settlement no_bound no_solution =
    let best = best-unsolved network history settlement no_bound in
    let list = solutions-snoc history settlement ∙ ap (λ s. solutions history ++ s) no_solution ∙ append-nil (solutions history) in
    kept-is network (history ++ settlement ∷ [])
    ∙ (λ i. first_of (offsets_with (best i) (list i)))
    ∙ sym (kept-is network history)

module _ (network : Network) (history : List Settlement) (settlement : Settlement) (offsets : List ℕ) (bound : ℕ) (leaf : Leaf) (chains : List (List ℕ)) (is : settlement.event.outcome ≡ solved offsets bound leaf chains) where
  list_solved : solutions (history ++ settlement ∷ []) ≡ solutions history ++ (offsets, bound) ∷ []
  unfolding solution_of
  list_solved = solutions-snoc history settlement ∙ ap (λ o. solutions history ++ solution_of o) is

  kept_parts : (best : ℕ) → best_bound network (history ++ settlement ∷ []) ≡ best
      → kept_of network (history ++ settlement ∷ []) ≡ first_of (offsets_with best (solutions history) ++ offsets_with best ((offsets, bound) ∷ []))
  kept_parts best least =
      kept-is network (history ++ settlement ∷ [])
      ∙ (λ i. first_of (offsets_with (least i) (list_solved i)))
      ∙ ap first_of (with-append best (solutions history) ((offsets, bound) ∷ []))

  -- a solved leaf of a lesser flowspan is kept
  pub kept-lower : bound < best_bound network history → kept_of network (history ++ settlement ∷ []) ≡ Some offsets
  unfolding first_of
  kept-lower less =
      let best : best_bound network (history ++ settlement ∷ []) ≡ bound = best-solved network history settlement offsets bound leaf chains is ∙ omega arith in
      kept_parts bound best ∙ (λ i. first_of (none_below network history bound less i ++ with-one offsets bound i))

  -- so is one of the same flowspan that comes before what was kept
  pub kept-even : bound ≡ best_bound network history → (before : List ℕ) → kept_of network history ≡ Some before → kept_of network (history ++ settlement ∷ []) ≡ Some (earlier before offsets)
  kept-even same before was =
      let best : best_bound network (history ++ settlement ∷ []) ≡ best_bound network history = best-solved network history settlement offsets bound leaf chains is ∙ omega arith in
      let one : offsets_with (best_bound network history) ((offsets, bound) ∷ []) ≡ offsets ∷ [] = subst (λ b. offsets_with b ((offsets, bound) ∷ []) ≡ offsets ∷ []) same (with-one offsets bound) in
      kept_parts (best_bound network history) best
      ∙ ap (λ xs. first_of (offsets_with (best_bound network history) (solutions history) ++ xs)) one
      ∙ first_of-snoc (offsets_with (best_bound network history) (solutions history)) offsets before (sym (kept-is network history) ∙ was)

  -- and one of a greater flowspan isn't
  pub kept-greater : best_bound network history < bound → kept_of network (history ++ settlement ∷ []) ≡ kept_of network history
  kept-greater greater =
      let best : best_bound network (history ++ settlement ∷ []) ≡ best_bound network history = best-solved network history settlement offsets bound leaf chains is ∙ omega arith in
      kept_parts (best_bound network history) best
      ∙ ap (λ xs. first_of (offsets_with (best_bound network history) (solutions history) ++ xs)) (with-other offsets bound (best_bound network history) (λ same. omega (arith, greater, same)))
      ∙ ap first_of (append-nil (offsets_with (best_bound network history) (solutions history)))
      ∙ sym (kept-is network history)

-- ---- what one teller settled

pub settled_by-this : (k : ℕ) (history : List Settlement) (settlement : Settlement) → settlement.teller ≡ k → settled_by k (history ++ settlement ∷ []) ≡ settled_by k history ++ settlement ∷ []
unfolding settled_by
settled_by-this k history settlement same =
    filter-append (λ (s : Settlement). s.teller == k) history (settlement ∷ [])
    ∙ ap (λ s. settled_by k history ++ s) (filter-kept (λ (s : Settlement). s.teller == k) settlement [] (eq-eqb settlement.teller k same))

pub settled_by-another : (k : ℕ) (history : List Settlement) (settlement : Settlement) → settlement.teller ≢ k → settled_by k (history ++ settlement ∷ []) ≡ settled_by k history
unfolding settled_by
settled_by-another k history settlement other =
    filter-append (λ (s : Settlement). s.teller == k) history (settlement ∷ [])
    ∙ ap (λ s. settled_by k history ++ s) (filter-dropped (λ (s : Settlement). s.teller == k) settlement [] (ne_eqb settlement.teller k other))
    ∙ append-nil (settled_by k history)

-- ---- as one law

bound_solves : (outcome : Outcome) → solved_bound outcome ≡ [] → solution_of outcome ≡ []
unfolding solved_bound solution_of
bound_solves (split triple) none = refl
bound_solves (solved offsets bound leaf chains) none = let clash : bound ∷ [] ≡ [] = none in cc
bound_solves (pruned bound leaf) none = refl
bound_solves (tied bound leaf chains) none = refl
bound_solves (refuted leaf) none = refl

pub kept_lower_after : (network : Network) (history : List Settlement) (settlement : Settlement)
    → (offsets : List ℕ) (bound : ℕ) (leaf : Leaf) (chains : List (List ℕ)) → settlement.event.outcome ≡ solved offsets bound leaf chains → bound < best_bound network history
    → (best_bound network (history ++ settlement ∷ []) ≡ bound) × (kept_of network (history ++ settlement ∷ []) ≡ Some offsets)
kept_lower_after network history settlement offsets bound leaf chains is less =
    (best-solved network history settlement offsets bound leaf chains is ∙ omega arith, kept-lower network history settlement offsets bound leaf chains is less)

pub kept_even_after : (network : Network) (history : List Settlement) (settlement : Settlement)
    → (offsets : List ℕ) (bound : ℕ) (leaf : Leaf) (chains : List (List ℕ)) → settlement.event.outcome ≡ solved offsets bound leaf chains → bound ≡ best_bound network history
    → (best_bound network (history ++ settlement ∷ []) ≡ best_bound network history)
    × ((kept : List ℕ) → kept_of network history ≡ Some kept → kept_of network (history ++ settlement ∷ []) ≡ Some (earlier kept offsets))
kept_even_after network history settlement offsets bound leaf chains is same =
    (best-solved network history settlement offsets bound leaf chains is ∙ omega arith, kept-even network history settlement offsets bound leaf chains is same)

kept_same_none : (network : Network) (history : List Settlement) (settlement : Settlement) → solved_bound settlement.event.outcome ≡ []
    → (best_bound network (history ++ settlement ∷ []) ≡ best_bound network history) × (kept_of network (history ++ settlement ∷ []) ≡ kept_of network history)
kept_same_none network history settlement none = (best-unsolved network history settlement none, kept-unsolved network history settlement none (bound_solves settlement.event.outcome none))

kept_same_at : (network : Network) (history : List Settlement) (settlement : Settlement) (outcome : Outcome) → settlement.event.outcome ≡ outcome
    → All (λ bound. best_bound network history < bound) (solved_bound outcome)
    → (best_bound network (history ++ settlement ∷ []) ≡ best_bound network history) × (kept_of network (history ++ settlement ∷ []) ≡ kept_of network history)
unfolding solved_bound
kept_same_at network history settlement (solved offsets bound leaf chains) is above =
    let greater : best_bound network history < bound = All-head (λ b. best_bound network history < b) bound [] above in
    (best-solved network history settlement offsets bound leaf chains is ∙ omega arith, kept-greater network history settlement offsets bound leaf chains is greater)
kept_same_at network history settlement (split triple) is above = kept_same_none network history settlement (ap solved_bound is)
kept_same_at network history settlement (pruned bound leaf) is above = kept_same_none network history settlement (ap solved_bound is)
kept_same_at network history settlement (tied bound leaf chains) is above = kept_same_none network history settlement (ap solved_bound is)
kept_same_at network history settlement (refuted leaf) is above = kept_same_none network history settlement (ap solved_bound is)

pub kept_same_after : (network : Network) (history : List Settlement) (settlement : Settlement) → All (λ bound. best_bound network history < bound) (solved_bound settlement.event.outcome)
    → (best_bound network (history ++ settlement ∷ []) ≡ best_bound network history) × (kept_of network (history ++ settlement ∷ []) ≡ kept_of network history)
kept_same_after network history settlement above = kept_same_at network history settlement settlement.event.outcome refl above
