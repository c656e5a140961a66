-- What a legal history keeps: the first in order of the solved leaves of least flowspan.
use Rattle.std.proofs.Common.{◌≡◌, ℕ, ◌+◌, ◌≤◌, min, List, [], ◌∷◌, map, length, filter, fold, All, Contains, refl, sym, ap, subst, arith, ◌⊎◌, inl, inr, Option, Some, None}
use Rattle.std.specs.Prelude.{◌==◌, MatchOption}
use Rattle.std.proofs.lemmas.Bool.{eqb-true, cases_lt, eq-eqb}
use Rattle.std.proofs.lemmas.List.Elements.{All-contains}
use Rattle.tsn_model.specs.declared.Decision.{Decision}
use Rattle.tsn_model.specs.Network.{Network, stream_count}
use Rattle.tsn_model.specs.Schedule.{IsValid, flowspan, target_of, IsNotAfter, first_of}
use Rattle.tsn_model.specs.Search.{Outcome, split, solved, pruned, tied, refuted, Settlement, solved_bound, solved_bounds, solution_of, solutions, kept_of, least_or_none, best_bound, IsRight, IsLegal}
use Rattle.tsn_model.proofs.Lists.{Contains-map, from_map, Contains-head, Contains-more, Contains-nil, Contains-flat_map, from_flat_map, Contains-filter, from_filter}
use Rattle.tsn_model.proofs.ListOrder.{firsts_first}
use Rattle.tsn_model.proofs.Schedules.{flowspan-le-cycle}
use Rattle.tsn_model.proofs.SearchLists.{Contains-one, All-from_Contains}
use Rattle.tsn_model.proofs.BestBounds.{settlement_right, best-le-solved}

-- ---- the least of some numbers is one of them, or the bound

pub least_attained : (bound : ℕ) (xs : List ℕ) → (fold min bound xs ≡ bound) ⊎ Contains xs (fold min bound xs)
least_attained bound [] = inl refl
least_attained bound (x ∷ xs) =
    elim (least_attained (min bound x) xs) [
      | inr among ↦ inr (Contains-more x xs (fold min (min bound x) xs) among)
      | inl start ↦ elim (cases_lt x bound) [
        | inl less ↦
            let is : x ≡ fold min (min bound x) xs = omega (arith, start) in
            inr (subst (Contains (x ∷ xs)) is (Contains-head x xs))
        | inr not_less ↦ inl (omega (arith, start))
      ]
    ]

-- ---- solved leaves

solution_right : (network : Network) (before : List Settlement) (path : List Decision) (outcome : Outcome) → IsRight network before path outcome
    → (solution : List ℕ × ℕ) → Contains (solution_of outcome) solution → IsValid network solution.0 × (flowspan network solution.0 ≡ solution.1)
unfolding solution_of
solution_right network before path (split triple) right solution at = absurd (Contains-nil solution at)
solution_right network before path (solved offsets bound proof chains) right solution at =
    let is : (offsets, bound) ≡ solution = Contains-one (offsets, bound) solution at in
    subst (λ (s : List ℕ × ℕ). IsValid network s.0 × (flowspan network s.0 ≡ s.1)) is (right.0, right.1)
solution_right network before path (pruned bound proof) right solution at = absurd (Contains-nil solution at)
solution_right network before path (tied bound proof chains) right solution at = absurd (Contains-nil solution at)
solution_right network before path (refuted proof) right solution at = absurd (Contains-nil solution at)

-- each is a valid schedule with its flowspan
pub solutions_valid : (network : Network) (history : List Settlement) → IsLegal network history → (solution : List ℕ × ℕ) → Contains (solutions history) solution
    → IsValid network solution.0 × (flowspan network solution.0 ≡ solution.1)
unfolding solutions
solutions_valid network history legal solution among =
    let of = from_flat_map (λ (s : Settlement). solution_of s.event.outcome) history solution among in
    let right = settlement_right network history legal of.0 of.1 in
    solution_right network right.0 of.0.event.path of.0.event.outcome right.3.is_right solution of.2

bound_solution : (outcome : Outcome) (bound : ℕ) → Contains (solved_bound outcome) bound → (solution : List ℕ × ℕ) × Contains (solution_of outcome) solution × (solution.1 ≡ bound)
unfolding solved_bound solution_of
bound_solution (split triple) bound at = absurd (Contains-nil bound at)
bound_solution (solved offsets other proof chains) bound at = ((offsets, other), Contains-head (offsets, other) [], Contains-one other bound at)
bound_solution (pruned other proof) bound at = absurd (Contains-nil bound at)
bound_solution (tied other proof chains) bound at = absurd (Contains-nil bound at)
bound_solution (refuted proof) bound at = absurd (Contains-nil bound at)

-- each solved bound is that of a solution
pub solution_with : (history : List Settlement) (bound : ℕ) → Contains (solved_bounds history) bound → (solution : List ℕ × ℕ) × Contains (solutions history) solution × (solution.1 ≡ bound)
unfolding solved_bounds solutions
solution_with history bound among =
    let of = from_flat_map (λ (s : Settlement). solved_bound s.event.outcome) history bound among in
    let solution = bound_solution of.0.event.outcome bound of.2 in
    (solution.0, Contains-flat_map (λ (s : Settlement). solution_of s.event.outcome) history of.0 solution.0 of.1 solution.1, solution.2)

solution_bound : (outcome : Outcome) (solution : List ℕ × ℕ) → Contains (solution_of outcome) solution → Contains (solved_bound outcome) solution.1
unfolding solved_bound solution_of
solution_bound (split triple) solution at = absurd (Contains-nil solution at)
solution_bound (solved offsets other proof chains) solution at =
    let is : (offsets, other) ≡ solution = Contains-one (offsets, other) solution at in
    subst (λ (s : List ℕ × ℕ). Contains (other ∷ []) s.1) is (Contains-head other [])
solution_bound (pruned other proof) solution at = absurd (Contains-nil solution at)
solution_bound (tied other proof chains) solution at = absurd (Contains-nil solution at)
solution_bound (refuted proof) solution at = absurd (Contains-nil solution at)

-- and the flowspan of each solution is a solved bound
pub solution_among : (history : List Settlement) (solution : List ℕ × ℕ) → Contains (solutions history) solution → Contains (solved_bounds history) solution.1
unfolding solved_bounds solutions
solution_among history solution among =
    let of = from_flat_map (λ (s : Settlement). solution_of s.event.outcome) history solution among in
    Contains-flat_map (λ (s : Settlement). solved_bound s.event.outcome) history of.0 solution.1 of.1 (solution_bound of.0.event.outcome solution of.2)

-- ---- the solved leaves of one flowspan

-- their offsets
unfoldable pub offsets_with : ℕ → List (List ℕ × ℕ) → List (List ℕ)
offsets_with bound list = map (λ (solution : List ℕ × ℕ). solution.0) (filter (λ (solution : List ℕ × ℕ). solution.1 == bound) list)

pub with-from : (bound : ℕ) (list : List (List ℕ × ℕ)) (offsets : List ℕ) → Contains (offsets_with bound list) offsets → Contains list (offsets, bound)
unfolding offsets_with
with-from bound list offsets found =
    let test = λ (solution : List ℕ × ℕ). solution.1 == bound in
    let of = from_map (λ (solution : List ℕ × ℕ). solution.0) (filter test list) offsets found in
    let passed = from_filter test list of.0 of.1 in
    let bounded : of.0.1 ≡ bound = eqb-true of.0.1 bound passed.1 in
    let is : of.0 ≡ (offsets, bound) = λ i. (of.2 i, bounded i) in
    subst (Contains list) is passed.0

pub with-of : (bound : ℕ) (list : List (List ℕ × ℕ)) (offsets : List ℕ) → Contains list (offsets, bound) → Contains (offsets_with bound list) offsets
unfolding offsets_with
with-of bound list offsets found =
    let test = λ (solution : List ℕ × ℕ). solution.1 == bound in
    Contains-map (λ (solution : List ℕ × ℕ). solution.0) (filter test list) (offsets, bound) (Contains-filter test list (offsets, bound) found (eq-eqb bound bound refl))

-- ---- what is kept

-- what a search may keep: the first in order of the valid schedules that it solved with the least flowspan, or nothing where nothing was solved
pub data Keeps (network : Network) (history : List Settlement) : Option (List ℕ) → Type 0 where
  schedule : (offsets : List ℕ) → IsValid network offsets → flowspan network offsets ≡ best_bound network history → Contains (solutions history) (offsets, best_bound network history)
      → ((other : List ℕ) → Contains (solutions history) (other, best_bound network history) → IsNotAfter offsets other) → Keeps network history (Some offsets)
  nothing : best_bound network history ≡ network.cycle + 1 → solved_bounds history ≡ [] → Keeps network history None

pub nil-from_none : {X : Type 0} (xs : List X) → ((x : X) → Contains xs x → ⊥) → xs ≡ []
nil-from_none [] none = refl
nil-from_none (x ∷ xs) none = absurd (none x (Contains-head x xs))

-- each solved bound is at most the cycle
pub solved-le-cycle : (network : Network) (history : List Settlement) → IsLegal network history → (bound : ℕ) → Contains (solved_bounds history) bound → bound ≤ network.cycle
solved-le-cycle network history legal bound among =
    let solution = solution_with history bound among in
    let valid = solutions_valid network history legal solution.0 solution.1 in
    omega (arith, valid.1, solution.2, flowspan-le-cycle network solution.0.0 valid.0)

pub best_attained : (network : Network) (history : List Settlement) → (best_bound network history ≡ network.cycle + 1) ⊎ Contains (solved_bounds history) (best_bound network history)
unfolding best_bound least_or_none
best_attained network history = least_attained (network.cycle + 1) (solved_bounds history)

best_unsolved : (network : Network) (history : List Settlement) → solved_bounds history ≡ [] → best_bound network history ≡ network.cycle + 1
unfolding best_bound least_or_none
best_unsolved network history unsolved = ap (fold min (network.cycle + 1)) unsolved

-- the solved leaves of least flowspan
abbrev bests : Network → List Settlement → List (List ℕ)
bests network history = offsets_with (best_bound network history) (solutions history)

bests_long : (network : Network) (history : List Settlement) → IsLegal network history → All (λ xs. length xs ≡ stream_count network) (bests network history)
bests_long network history legal =
    All-from_Contains (λ xs. length xs ≡ stream_count network) (bests network history) (λ offsets found.
    (solutions_valid network history legal (offsets, best_bound network history) (with-from (best_bound network history) (solutions history) offsets found)).0.count)

kept_first : (network : Network) (history : List Settlement) → IsLegal network history → (o : Option (List ℕ))
    → MatchOption o (bests network history ≡ []) (λ first. Contains (bests network history) first × All (IsNotAfter first) (bests network history)) → Keeps network history o
kept_first network history legal (Some offsets) first =
    let best : ℕ = best_bound network history in
    let among = with-from best (solutions history) offsets first.0 in
    let valid = solutions_valid network history legal (offsets, best) among in
    schedule offsets valid.0 valid.1 among
    (λ other found. All-contains (IsNotAfter offsets) (bests network history) other first.1 (with-of best (solutions history) other found))
kept_first network history legal None none =
    let best : ℕ = best_bound network history in
    let unsolved : solved_bounds history ≡ [] = nil-from_none (solved_bounds history) (λ bound among.
    let low = All-contains (λ b. best_bound network history ≤ b) (solved_bounds history) bound (best-le-solved network history) among in
    let short = solved-le-cycle network history legal bound among in
    elim (best_attained network history) [
      | inl past ↦ omega (arith, low, short, past)
      | inr at ↦
          let solution = solution_with history best at in
          let is : solution.0 ≡ (solution.0.0, best) = λ i. (solution.0.0, solution.2 i) in
          let found = with-of best (solutions history) solution.0.0 (subst (Contains (solutions history)) is solution.1) in
          Contains-nil solution.0.0 (subst (λ xs. Contains xs solution.0.0) none found)
    ]) in
    nothing (best_unsolved network history unsolved) unsolved

pub kept-is : (network : Network) (history : List Settlement) → kept_of network history ≡ first_of (offsets_with (best_bound network history) (solutions history))
unfolding kept_of offsets_with
kept-is network history = refl

pub kept : (network : Network) (history : List Settlement) → IsLegal network history → Keeps network history (kept_of network history)
kept network history legal =
    subst (Keeps network history) (sym (kept-is network history))
    (kept_first network history legal (first_of (bests network history)) (firsts_first (stream_count network) (bests network history) (bests_long network history legal)))

-- the least solved flowspan is the target of what is kept
pub kept_target : (network : Network) (history : List Settlement) → IsLegal network history → target_of network (kept_of network history) ≡ best_bound network history
unfolding target_of
kept_target network history legal = go (kept_of network history) (kept network history legal)
  where
    go : (o : Option (List ℕ)) → Keeps network history o → target_of network o ≡ best_bound network history
    go o (schedule offsets valid is among first) = is
    go o (nothing is unsolved) = sym is

-- what is kept is valid, of the least solved flowspan; nothing is kept only where nothing was solved
pub kept_valid : (network : Network) (history : List Settlement) → IsLegal network history
    → MatchOption (kept_of network history) (solved_bounds history ≡ []) (λ offsets. IsValid network offsets × (flowspan network offsets ≡ best_bound network history))
kept_valid network history legal = go (kept_of network history) (kept network history legal)
  where
    go : (o : Option (List ℕ)) → Keeps network history o → MatchOption o (solved_bounds history ≡ []) (λ offsets. IsValid network offsets × (flowspan network offsets ≡ best_bound network history))
    go o (schedule offsets valid is among first) = (valid, is)
    go o (nothing is unsolved) = unsolved

-- it is a solved leaf's, and no solved leaf of its flowspan comes before it
pub kept_among : (network : Network) (history : List Settlement) → IsLegal network history → (offsets : List ℕ) → kept_of network history ≡ Some offsets
    → Contains (solutions history) (offsets, best_bound network history) × ((other : List ℕ) → Contains (solutions history) (other, best_bound network history) → IsNotAfter offsets other)
kept_among network history legal offsets is = go (kept_of network history) (kept network history legal) offsets is
  where
    go : (o : Option (List ℕ)) → Keeps network history o → (offsets : List ℕ) → o ≡ Some offsets
        → Contains (solutions history) (offsets, best_bound network history) × ((other : List ℕ) → Contains (solutions history) (other, best_bound network history) → IsNotAfter offsets other)
    go o (schedule first valid spans among before) offsets is =
        let same : first ≡ offsets = cc in
        subst (λ xs. Contains (solutions history) (xs, best_bound network history) × ((other : List ℕ) → Contains (solutions history) (other, best_bound network history) → IsNotAfter xs other)) same (among, before)
    go o (nothing past unsolved) offsets is = let clash : None ≡ Some offsets = is in cc

-- a solution is that of a settlement
pub solution_settled : (history : List Settlement) (solution : List ℕ × ℕ) → Contains (solutions history) solution → (settlement : Settlement) × Contains history settlement × Contains (solution_of settlement.event.outcome) solution
unfolding solutions
solution_settled history solution among = from_flat_map (λ (s : Settlement). solution_of s.event.outcome) history solution among

pub settled_solution : (history : List Settlement) (settlement : Settlement) (solution : List ℕ × ℕ) → Contains history settlement → Contains (solution_of settlement.event.outcome) solution → Contains (solutions history) solution
unfolding solutions
settled_solution history settlement solution found at = Contains-flat_map (λ (s : Settlement). solution_of s.event.outcome) history settlement solution found at

pub kept_is_first : (network : Network) (history : List Settlement) → IsLegal network history → (offsets : List ℕ) → kept_of network history ≡ Some offsets
    → ((settlement : Settlement) × Contains history settlement × Contains (solution_of settlement.event.outcome) (offsets, best_bound network history))
    × ((settlement : Settlement) (other : List ℕ) → Contains history settlement → Contains (solution_of settlement.event.outcome) (other, best_bound network history) → IsNotAfter offsets other)
kept_is_first network history legal offsets is =
    let first = kept_among network history legal offsets is in (
      solution_settled history (offsets, best_bound network history) first.0,
      λ settlement other found at. first.1 other (settled_solution history settlement (other, best_bound network history) found at),
    )
