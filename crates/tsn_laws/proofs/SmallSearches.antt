-- The search on the small network is legal.
use Rattle.std.proofs.Common.{pos, ◌≡◌, ℕ, zero, suc, ◌≤◌, ◌<◌, ◌⊎◌, length, List, [], ◌∷◌, Contains, All, Option, Some, arith, refl, sym, subst, inl, inr}
use Rattle.std.specs.Prelude.{IsSomeAnd}
use Rattle.std.proofs.lemmas.List.Elements.{All-nil, All-cons}
use Rattle.tsn_model.specs.declared.Side.TheVariants.{Left, Right}
use Rattle.tsn_model.specs.declared.Decision.{Decision}
use Rattle.tsn_model.specs.Schedule.{comes_before, earlier, first_of}
use Rattle.tsn_model.specs.Certificate.{beyond, ShowsAfter, decided}
use Rattle.tsn_model.specs.Search.{Settlement, side_eq, decision_eq, path_eq, children_of, made_paths, is_settled, open_paths, solved_bound, solved_bounds, settled_by, least_or_none, best_bound, solution_of, solutions, kept_of, ShowsOffsets, IsNoBetter, IsAllowed}
use Rattle.tsn_model.specs.Core.{State, initial_state, teller_at, effect_of}
use Rattle.tsn_model.specs.Examples.{small_network, shared, small_offsets, small_tree, other_offsets}
use Rattle.tsn_laws.proofs.Small.{small_numbers, small_valid, small_accepted, left_chains, left_sums, right_chains, right_after, not_after_other}
use Rattle.tsn_model.proofs.Lists.{Contains-nil, Contains-head}
use Rattle.tsn_model.specs.SearchExamples.{first_split, left_solved, right_pruned, right_tied, small_history, SmallSearch, small_steps, small_replies, SmallRun, right_solved, left_tied, SmallOtherSearch}
use Rattle.tsn_model.proofs.Histories.{legal_nil, legal_snoc}

root_open : Contains (open_paths []) []
unfolding open_paths made_paths is_settled
root_open = (0, omega arith, refl)

first_allowed : IsAllowed small_network [] first_split.event
unfolding first_split small_tree
first_allowed = record { is_open = root_open; is_right = (small_accepted.0, All-nil (λ (decision : Decision). decision.triple ≡ shared → ⊥)) }

left_open : Contains (open_paths (first_split ∷ [])) (decided [] shared Left)
unfolding open_paths made_paths is_settled children_of path_eq decision_eq side_eq first_split shared decided
left_open = (0, omega arith, refl)

left_shows : ShowsOffsets small_network (decided [] shared Left) ([] ∷ (0 ∷ []) ∷ []) small_offsets
unfolding small_network
left_shows = (refl, left_chains, left_sums)

left_allowed : IsAllowed small_network (first_split ∷ []) left_solved.event
unfolding left_solved small_tree
left_allowed = record { is_open = left_open; is_right = (small_valid, small_numbers.whole, small_accepted.1, tt, left_shows) }

right_open : Contains (open_paths (first_split ∷ left_solved ∷ [])) (decided [] shared Right)
unfolding open_paths made_paths is_settled children_of path_eq decision_eq side_eq first_split left_solved shared decided
right_open = (0, omega arith, refl)

best_so_far : best_bound small_network (first_split ∷ left_solved ∷ []) ≡ 2924
unfolding best_bound least_or_none solved_bounds solved_bound first_split left_solved small_network
best_so_far = refl

kept_so_far : kept_of small_network (first_split ∷ left_solved ∷ []) ≡ Some small_offsets
unfolding kept_of first_of solutions solution_of best_bound least_or_none solved_bounds solved_bound first_split left_solved small_network
kept_so_far = refl

right_no_better : IsNoBetter small_network (first_split ∷ left_solved ∷ []) (decided [] shared Right) 2924 ((0 ∷ []) ∷ [])
right_no_better =
    subst (λ o. IsSomeAnd o (λ offsets. (best_bound small_network (first_split ∷ left_solved ∷ []) < 2924)
    ⊎ ((2924 ≡ best_bound small_network (first_split ∷ left_solved ∷ [])) × ShowsAfter small_network (decided [] shared Right) ((0 ∷ []) ∷ []) offsets)))
    (sym kept_so_far) (inr (sym best_so_far, right_after))

right_allowed : IsAllowed small_network (first_split ∷ left_solved ∷ []) right_tied.event
unfolding right_tied small_tree
right_allowed = record { is_open = right_open; is_right = (small_accepted.2, tt, right_chains, right_no_better) }

pub small_search : SmallSearch
unfolding small_history open_paths made_paths is_settled children_of path_eq decision_eq side_eq kept_of first_of solutions best_bound least_or_none solved_bounds solved_bound solution_of first_split left_solved right_tied shared decided small_network
small_search = record {
  legal = legal_snoc small_network (first_split ∷ left_solved ∷ []) right_tied
      (legal_snoc small_network (first_split ∷ []) left_solved (legal_snoc small_network [] first_split (legal_nil small_network) first_allowed) left_allowed) right_allowed;
  finished = refl;
  keeps = refl;
}

-- ---- the other way round

other_kept : kept_of small_network (first_split ∷ right_solved ∷ []) ≡ Some other_offsets
unfolding kept_of first_of solutions solution_of best_bound least_or_none solved_bounds solved_bound first_split right_solved small_network
other_kept = refl

other_best : best_bound small_network (first_split ∷ right_solved ∷ []) ≡ 2924
unfolding best_bound least_or_none solved_bounds solved_bound first_split right_solved small_network
other_best = refl

left_unmet : IsNoBetter small_network (first_split ∷ right_solved ∷ []) (decided [] shared Left) 2924 ([] ∷ (0 ∷ []) ∷ []) → ⊥
left_unmet shown =
    let better = λ (o : Option (List ℕ)). IsSomeAnd o (λ offsets. (best_bound small_network (first_split ∷ right_solved ∷ []) < 2924)
    ⊎ ((2924 ≡ best_bound small_network (first_split ∷ right_solved ∷ [])) × ShowsAfter small_network (decided [] shared Left) ([] ∷ (0 ∷ []) ∷ []) offsets)) in
    let there : better (Some other_offsets) = subst better other_kept shown in
    elim there [ inl worse ↦ omega (arith, worse, other_best) | inr even ↦ not_after_other even.1 ]

pub small_other_search : SmallOtherSearch
unfolding left_tied kept_of first_of earlier comes_before solutions solution_of best_bound least_or_none solved_bounds solved_bound first_split right_solved left_solved small_network small_offsets other_offsets
small_other_search = record { keeps = other_kept; unmet = left_unmet; keeps_first = refl }

-- ---- the same as steps

-- the states after the steps that change something
state_of : ℕ → ℕ → ℕ → List Settlement → State
state_of word seen_0 seen_1 history = record {
  word = word;
  tellers = record { seen = seen_0; posted = word } ∷ record { seen = seen_1; posted = 1000001 } ∷ [];
  history = history;
}

all_posted : (k : ℕ) → k < length (state_of 2924 2924 2924 small_history).tellers
    → All (λ flowspan. (teller_at (state_of 2924 2924 2924 small_history) k).posted ≤ flowspan) (solved_bounds (settled_by k (state_of 2924 2924 2924 small_history).history))
unfolding state_of small_history settled_by solved_bounds solved_bound first_split left_solved right_tied teller_at
all_posted zero below = All-cons (λ flowspan. 2924 ≤ flowspan) 2924 [] (omega arith) (All-nil (λ flowspan. 2924 ≤ flowspan))
all_posted (suc zero) below = All-nil (λ flowspan. 1000001 ≤ flowspan)
all_posted (suc (suc k)) below = absurd (omega arith)

pub small_run : SmallRun
unfolding small_history small_steps small_replies state_of initial_state small_network effect_of teller_at first_split left_solved right_pruned right_tied small_offsets shared decided settled_by solved_bounds solved_bound open_paths made_paths is_settled children_of path_eq decision_eq side_eq beyond
small_run = record {
  last = state_of 2924 2924 2924 (first_split ∷ left_solved ∷ right_tied ∷ []);
  answers = (
    state_of 1000001 1000001 1000001 (first_split ∷ []),
    ((omega arith, omega arith, first_allowed, tt), refl),
    (
      state_of 1000001 1000001 1000001 (first_split ∷ []),
      (omega arith, refl, refl),
      (
        state_of 1000001 1000001 1000001 (first_split ∷ []),
        (inr (λ low. omega arith), refl),
        (
          state_of 1000001 1000001 1000001 (first_split ∷ left_solved ∷ []),
          ((omega arith, omega arith, left_allowed, tt), refl),
          (
            state_of 1000001 1000001 1000001 (first_split ∷ left_solved ∷ []),
            (inr (λ found. Contains-nil 2924 found), refl),
            (
              state_of 2924 2924 1000001 (first_split ∷ left_solved ∷ []),
              ((omega arith, Contains-head 2924 []), refl, refl),
              (
                state_of 2924 2924 2924 (first_split ∷ left_solved ∷ []),
                (omega arith, refl, refl),
                (
                  state_of 2924 2924 2924 (first_split ∷ left_solved ∷ []),
                  (inr (λ low. omega arith), refl),
                  (
                    state_of 2924 2924 2924 (first_split ∷ left_solved ∷ right_tied ∷ []),
                    ((omega arith, omega arith, right_allowed, tt), refl),
                    (state_of 2924 2924 2924 (first_split ∷ left_solved ∷ right_tied ∷ []), (omega arith, tt, ((λ found. Contains-nil (record { triple = record { left = 0; right = 1; link = 4; lag = pos 0 }; side = Right } ∷ []) found), refl), refl), refl),
                  ),
                ),
              ),
            ),
          ),
        ),
      ),
    ),
  );
  quiet = record { none_open = refl; all_posted = all_posted };
  word = refl;
}
