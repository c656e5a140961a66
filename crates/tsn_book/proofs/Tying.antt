-- The nodes of leaves that a plan ties, and why each of them can be given.
use Rattle.std.proofs.Common.{◌≡◌, ◌≢◌, ℕ, zero, suc, ◌+◌, ◌≤◌, ◌<◌, List, [], ◌∷◌, take, length, Option, Some, None, sym, ap, ◌∙◌, subst, Contains, arith, inl, inr}
use Rattle.std.specs.Prelude.{nat_eq, ◌==◌, IsSomeAnd}
use Rattle.std.proofs.lemmas.Bool.{cases_Bool, cond-true, cond-false, eqb-true, eq-eqb, ne_eqb}
use Rattle.tsn_model.specs.declared.Decision.{Decision}
use Rattle.tsn_model.specs.Network.{Network}
use Rattle.tsn_model.specs.Schedule.{offset_of, common, flowspan, target_of}
use Rattle.tsn_model.specs.Certificate.{Leaf, leaf_node, tie_node}
use Rattle.tsn_model.specs.Search.{Outcome, split, solved, pruned, tied, refuted, Settlement, kept_of, IsRight, IsLegal}
use Rattle.tsn_model.proofs.Schedules.{flowspan-le-cycle}
use Rattle.tsn_timing.specs.Solution.{Solution}
use Rattle.tsn_model.specs.Order.{chains_until, node_of}
use Rattle.tsn_model.proofs.BestBounds.{settlement_right}
use Rattle.tsn_model.proofs.Finished.{right_stays}
use Rattle.tsn_book.specs.Book.{planned, HasTie}

-- where two lists differ, or one ends
pub common_is : (xs ys : List ℕ) (k : ℕ) → k ≤ length xs → k ≤ length ys → ((i : ℕ) → i < k → offset_of xs i ≡ offset_of ys i)
    → (k < length xs → k < length ys → offset_of xs k ≢ offset_of ys k) → common xs ys ≡ k
unfolding common
common_is [] ys k in_first in_second same differ = omega arith
common_is (x ∷ xs) [] k in_first in_second same differ = omega arith
common_is (x ∷ xs) (y ∷ ys) zero in_first in_second same differ =
    elim (cases_Bool (nat_eq x y)) [
      | inl is ↦ absurd (differ (omega arith) (omega arith) (eqb-true x y is))
      | inr isnt ↦ cond-false (nat_eq x y)
          (suc (common xs ys)) 0 isnt
    ]
common_is (x ∷ xs) (y ∷ ys) (suc k) in_first in_second same differ =
    cond-true (nat_eq x y) (suc (common xs ys)) 0 (eq-eqb x y (same 0 (omega arith)))
    ∙ ap suc (common_is xs ys k (omega arith) (omega arith) (λ i below. same (suc i) (omega arith)) (λ a b. differ (omega arith) (omega arith)))

module _ (network : Network) (plan : List ℕ) (span : ℕ) (spans : flowspan network plan ≡ span) where
  pub solved_even : (offsets : List ℕ) (bound : ℕ) (leaf : Leaf) (chains : List (List ℕ)) → bound ≡ span
      → node_of network (Some plan) (solved offsets bound leaf chains) ≡ tie_node leaf (take (common offsets plan + 1) chains)
  unfolding node_of chains_until target_of
  solved_even offsets bound leaf chains same =
      cond-true (bound == flowspan network plan) (tie_node leaf (take (common offsets plan + 1) chains)) (leaf_node leaf)
      (eq-eqb bound (flowspan network plan) (same ∙ sym spans))

  pub solved_apart : (offsets : List ℕ) (bound : ℕ) (leaf : Leaf) (chains : List (List ℕ)) → bound ≢ span
      → node_of network (Some plan) (solved offsets bound leaf chains) ≡ leaf_node leaf
  unfolding node_of chains_until target_of
  solved_apart offsets bound leaf chains differ =
      cond-false (bound == flowspan network plan) (tie_node leaf (take (common offsets plan + 1) chains)) (leaf_node leaf)
      (ne_eqb bound (flowspan network plan) (λ is. differ (is ∙ spans)))

  pub tied_even : (bound : ℕ) (leaf : Leaf) (chains : List (List ℕ)) → bound ≡ span
      → node_of network (Some plan) (tied bound leaf chains) ≡ tie_node leaf chains
  unfolding node_of target_of
  tied_even bound leaf chains same =
      cond-true (bound == flowspan network plan) (tie_node leaf chains) (leaf_node leaf) (eq-eqb bound (flowspan network plan) (same ∙ sym spans))

  pub tied_apart : (bound : ℕ) (leaf : Leaf) (chains : List (List ℕ)) → bound ≢ span → node_of network (Some plan) (tied bound leaf chains) ≡ leaf_node leaf
  unfolding node_of target_of
  tied_apart bound leaf chains differ =
      cond-false (bound == flowspan network plan) (tie_node leaf chains) (leaf_node leaf) (ne_eqb bound (flowspan network plan) (λ is. differ (is ∙ spans)))

-- where there is no plan a solved leaf is a leaf
pub solved_alone : (network : Network) (offsets : List ℕ) (bound : ℕ) (leaf : Leaf) (chains : List (List ℕ)) → bound ≤ network.cycle
    → node_of network None (solved offsets bound leaf chains) ≡ leaf_node leaf
unfolding node_of chains_until target_of
solved_alone network offsets bound leaf chains within =
    cond-false (bound == network.cycle + 1) (tie_node leaf chains) (leaf_node leaf) (ne_eqb bound (network.cycle + 1) (λ is. absurd (omega arith)))

-- ---- what was settled

-- an option that has something isn't none
not_none : {X : Type 0} (P : X → Type 0) (option : Option X) → option ≡ None → IsSomeAnd option P → ⊥
not_none P None none some = some
not_none P (Some x) none some = cc

-- what is right for a history has a tie for what is kept of it
right_tie : (network : Network) (history : List Settlement) (plan : Option Solution) → kept_of network history ≡ planned plan
    → (path : List Decision) (outcome : Outcome) → IsRight network history path outcome → HasTie network plan outcome
right_tie network history plan is path (split triple) right = tt
right_tie network history plan is path (solved offsets bound leaf chains) right = (
  right.3,
  λ none. let within = flowspan-le-cycle network offsets right.0 in let same = right.1 in omega arith,
)
right_tie network history plan is path (pruned bound leaf) right = tt
right_tie network history plan is path (tied bound leaf chains) right = (right.1, λ none. not_none _ (kept_of network history) (is ∙ ap planned none) right.3)
right_tie network history plan is path (refuted leaf) right = tt

module _ {network : Network} {history : List Settlement} (legal : IsLegal network history) where
  pub settled_tie : (plan : Option Solution) → kept_of network history ≡ planned plan → (settlement : Settlement) → Contains history settlement
      → HasTie network plan settlement.event.outcome
  settled_tie plan is settlement found =
      let right = settlement_right network history legal settlement found in
      right_tie network history plan is settlement.event.path settlement.event.outcome
      (subst (λ h. IsRight network h settlement.event.path settlement.event.outcome) (sym right.2)
      (right_stays network right.0 (settlement ∷ right.1) (subst (IsLegal network) right.2 legal)
      settlement.event.path settlement.event.outcome right.3.is_right))
