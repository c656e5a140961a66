-- A legal history with nothing open is a tree that is accepted for what it keeps, and its settlements in the order of their paths are the tree's nodes.
use Rattle.std.proofs.Common.{◌≡◌, ℕ, ◌≤◌, ◌<◌, ◌⊎◌, List, [], ◌∷◌, ◌++◌, length, All, AllPairs, Contains, Bool, true, false, Option, Some, None, refl, sym, ap, ◌∙◌, subst, arith, inl, inr, append_assoc}
use Rattle.std.specs.Prelude.{IsPermutation, ◌==◌, if◌then◌else◌, MatchOption, IsSomeAnd}
use Rattle.std.proofs.lemmas.Bool.{cases_lt, eqb-true, eqb-false}
use Rattle.std.proofs.lemmas.List.{nil_from_length}
use Rattle.std.proofs.lemmas.List.Elements.{All-contains, Contains-append_left}
use Rattle.std.proofs.lemmas.List.Concat.{flat_map-append}
use Rattle.std.proofs.lemmas.List.Sorted.{IsPermutation-sym, All-permutation, Contains-permutation, length_permutation}
use Rattle.tsn_model.specs.declared.Decision.{Decision}
use Rattle.tsn_model.specs.Network.{Network, IsWellFormed, stream_count}
use Rattle.tsn_model.specs.Schedule.{IsValid, flowspan, target_of, IsFirst, HasNoSchedule}
use Rattle.tsn_model.specs.Certificate.{Leaf, Proves, beyond, HasBound, AreChains, ShowsAfter, Ties, Tree, Node, leaf_node, tie_node, IsNodeFirst, AcceptsFirst}
use Rattle.tsn_model.specs.Search.{Outcome, split, solved, pruned, tied, refuted, Settlement, open_paths, solved_bounds, solution_of, solutions, kept_of, best_bound, ShowsOffsets, IsRight, IsLegal}
use Rattle.tsn_model.specs.Core.{State, IsSound, IsQuiet}
use Rattle.tsn_model.proofs.Trees.{Proves-lesser}
use Rattle.tsn_model.proofs.Firsts.{accepted_first, accepted_first_none}
use Rattle.tsn_model.proofs.Ties.{after_sooner, shown_chains, shown_after}
use Rattle.tsn_model.proofs.Lists.{Contains-head, Contains-nil}
use Rattle.tsn_model.specs.Order.{chains_until, node_of}
use Rattle.tsn_model.proofs.SearchLists.{All-from_Contains, ordered_same}
use Rattle.tsn_model.proofs.Growths.{in_order, open_in, legal_growth, Backs, TreeOf, grown_tree}
use Rattle.tsn_model.proofs.Preorders.{SettledBefore, in_order_ordered, Precedes-irreflexive}
use Rattle.tsn_model.proofs.BestBounds.{settlement_right, best_bound-append, beyond-le, beyond-greater, best-le-solved, word_is_best}
use Rattle.tsn_model.proofs.Kept.{Keeps, schedule, nothing, kept, kept_target, kept_among, solutions_valid, solution_among, settled_solution}

-- ---- what was settled before

-- a beginning of a legal history is legal
pub legal_beginning : (network : Network) (before rest : List Settlement) → IsLegal network (before ++ rest) → IsLegal network before
legal_beginning network before rest legal = record {
  each = λ first after settlement same.
      legal.each first (after ++ rest) settlement (ap (λ xs. xs ++ rest) same ∙ append_assoc first (settlement ∷ after) rest);
}

solutions-append : (xs ys : List Settlement) → solutions (xs ++ ys) ≡ solutions xs ++ solutions ys
unfolding solutions
solutions-append xs ys = flat_map-append (λ (s : Settlement). solution_of s.event.outcome) xs ys

solution_stays : (before rest : List Settlement) (solution : List ℕ × ℕ) → Contains (solutions before) solution → Contains (solutions (before ++ rest)) solution
solution_stays before rest solution among =
    subst (λ list. Contains list solution) (sym (solutions-append before rest)) (Contains-append_left (solutions before) (solutions rest) solution among)

-- ---- the nodes of what was settled

choice_right : (network : Network) (plan : Option (List ℕ)) (path : List Decision) (b : Bool) (x y : Node) → (b ≡ true → IsNodeFirst network plan path x) → (b ≡ false → IsNodeFirst network plan path y)
    → IsNodeFirst network plan path (if b then x else y)
choice_right network plan path true x y first second = first refl
choice_right network plan path false x y first second = second refl

module _ (network : Network) (history : List Settlement) where
  -- a leaf of a greater bound
  leaf_right : (path : List Decision) (proof : Leaf) (bound : ℕ) → IsLegal network history → Proves network path bound proof → best_bound network history < bound
      → Proves network path (beyond network (target_of network (kept_of network history))) proof
  leaf_right path proof bound legal proves greater =
      let target = kept_target network history legal in
      Proves-lesser network path proof (beyond network (target_of network (kept_of network history))) bound
      (beyond-greater network (target_of network (kept_of network history)) bound (omega (arith, target, greater))) proves

  solved_tie : (path : List Decision) (offsets : List ℕ) (bound : ℕ) (proof : Leaf) (chains : List (List ℕ)) → IsValid network offsets → Proves network path bound proof → HasBound proof
      → ShowsOffsets network path chains offsets → Contains (solutions history) (offsets, best_bound network history) → bound ≡ best_bound network history
      → (plan : Option (List ℕ)) → Keeps network history plan → IsSomeAnd plan (λ o. Ties network path o proof (chains_until plan offsets chains))
  unfolding chains_until
  solved_tie path offsets bound proof chains valid proves bounded shows among same plan (schedule kept' kept_is_valid spans kept_is_among first) = record {
    bounded = bounded;
    bound = subst (λ target. Proves network path target proof) (same ∙ sym spans) proves;
    are_chains = shown_chains network path chains offsets kept' shows;
    after = shown_after network path chains offsets kept' shows valid.count kept_is_valid.count (first offsets among);
  }
  solved_tie path offsets bound proof chains valid proves bounded shows among same plan (nothing past unsolved) =
      Contains-nil (best_bound network history) (subst (λ bounds. Contains bounds (best_bound network history)) unsolved (solution_among history (offsets, best_bound network history) among))

  -- what was kept before is no better than what is kept
  even_after : (before rest : List Settlement) → IsLegal network before → history ≡ before ++ rest → best_bound network before ≡ best_bound network history → (path : List Decision) (chains : List (List ℕ))
      → (offsets : List ℕ) → kept_of network before ≡ Some offsets → ShowsAfter network path chains offsets
      → (plan : Option (List ℕ)) → Keeps network history plan → IsSomeAnd plan (λ o. ShowsAfter network path chains o × (flowspan network o ≡ best_bound network history))
  even_after before rest legal parts same path chains offsets was shown plan keeps =
      let among = (kept_among network before legal offsets was).0 in
      let valid = (solutions_valid network before legal (offsets, best_bound network before) among).0 in
      let stays : Contains (solutions history) (offsets, best_bound network before) =
      subst (λ h. Contains (solutions h) (offsets, best_bound network before)) (sym parts) (solution_stays before rest (offsets, best_bound network before) among) in
      let found : Contains (solutions history) (offsets, best_bound network history) = subst (λ b. Contains (solutions history) (offsets, b)) same stays in
      go valid.count found plan keeps
    where
      go : length offsets ≡ stream_count network → Contains (solutions history) (offsets, best_bound network history)
          → (plan : Option (List ℕ)) → Keeps network history plan → IsSomeAnd plan (λ o. ShowsAfter network path chains o × (flowspan network o ≡ best_bound network history))
      go count found plan (schedule kept' kept_is_valid spans kept_is_among first) = (after_sooner network path chains kept' offsets count (first offsets found) shown, spans)
      go count found plan (nothing past unsolved) =
          Contains-nil (best_bound network history) (subst (λ bounds. Contains bounds (best_bound network history)) unsolved (solution_among history (offsets, best_bound network history) found))

  tied_after : (before rest : List Settlement) → IsLegal network before → history ≡ before ++ rest → (path : List Decision) (bound : ℕ) (chains : List (List ℕ)) → bound ≡ best_bound network history
      → best_bound network history ≤ best_bound network before
      → (earlier : Option (List ℕ)) → kept_of network before ≡ earlier
      → IsSomeAnd earlier (λ offsets. (best_bound network before < bound) ⊎ ((bound ≡ best_bound network before) × ShowsAfter network path chains offsets))
      → (plan : Option (List ℕ)) → Keeps network history plan → IsSomeAnd plan (λ o. ShowsAfter network path chains o × (flowspan network o ≡ best_bound network history))
  tied_after before rest legal parts path bound chains same fallen None was shown plan keeps = absurd shown
  tied_after before rest legal parts path bound chains same fallen (Some offsets) was (inl worse) plan keeps = absurd (omega arith)
  tied_after before rest legal parts path bound chains same fallen (Some offsets) was (inr even) plan keeps =
      even_after before rest legal parts (sym even.0 ∙ same) path chains offsets was even.1 plan keeps

  -- where something was kept before, something is kept
  kept_stays : (before rest : List Settlement) → IsLegal network before → history ≡ before ++ rest → (offsets : List ℕ) → kept_of network before ≡ Some offsets
      → (P : List ℕ → Type 0) → ((o : List ℕ) → P o) → (plan : Option (List ℕ)) → Keeps network history plan → IsSomeAnd plan P
  kept_stays before rest legal parts offsets was P each plan (schedule kept' kept_is_valid spans kept_is_among first) = each kept'
  kept_stays before rest legal parts offsets was P each plan (nothing past unsolved) =
      let among = (kept_among network before legal offsets was).0 in
      let stays : Contains (solutions history) (offsets, best_bound network before) =
      subst (λ h. Contains (solutions h) (offsets, best_bound network before)) (sym parts) (solution_stays before rest (offsets, best_bound network before) among) in
      absurd (Contains-nil (best_bound network before) (subst (λ bounds. Contains bounds (best_bound network before)) unsolved (solution_among history (offsets, best_bound network before) stays)))

  only_after : (bound : ℕ) (path : List Decision) (chains : List (List ℕ)) → bound ≡ best_bound network history
      → (plan : Option (List ℕ)) → IsSomeAnd plan (λ o. ShowsAfter network path chains o × (flowspan network o ≡ best_bound network history))
      → IsSomeAnd plan (λ o. (best_bound network history < bound) ⊎ ((bound ≡ best_bound network history) × ShowsAfter network path chains o))
  only_after bound path chains same None shown = shown
  only_after bound path chains same (Some offsets) shown = inr (same, shown.0)

  -- what was no better than what was kept stays so
  stays_no_better : (before rest : List Settlement) → IsLegal network before → history ≡ before ++ rest → (path : List Decision) (bound : ℕ) (chains : List (List ℕ))
      → best_bound network history ≤ best_bound network before
      → (earlier : Option (List ℕ)) → kept_of network before ≡ earlier
      → IsSomeAnd earlier (λ offsets. (best_bound network before < bound) ⊎ ((bound ≡ best_bound network before) × ShowsAfter network path chains offsets))
      → (plan : Option (List ℕ)) → Keeps network history plan → IsSomeAnd plan (λ o. (best_bound network history < bound) ⊎ ((bound ≡ best_bound network history) × ShowsAfter network path chains o))
  stays_no_better before rest legal parts path bound chains fallen None was shown plan keeps = absurd shown
  stays_no_better before rest legal parts path bound chains fallen (Some offsets) was (inl worse) plan keeps =
      kept_stays before rest legal parts offsets was (λ o. (best_bound network history < bound) ⊎ ((bound ≡ best_bound network history) × ShowsAfter network path chains o))
      (λ o. inl (omega arith)) plan keeps
  stays_no_better before rest legal parts path bound chains fallen (Some offsets) was (inr even) plan keeps =
      elim (cases_lt (best_bound network history) (best_bound network before)) [
        | inl less ↦
            kept_stays before rest legal parts offsets was (λ o. (best_bound network history < bound) ⊎ ((bound ≡ best_bound network history) × ShowsAfter network path chains o))
            (λ o. inl (omega arith)) plan keeps
        | inr not_less ↦
            let same : best_bound network before ≡ best_bound network history = omega arith in
            only_after bound path chains (even.0 ∙ same) plan (even_after before rest legal parts same path chains offsets was even.1 plan keeps)
      ]

  tie_from : (path : List Decision) (bound : ℕ) (proof : Leaf) (chains : List (List ℕ)) → bound ≡ best_bound network history → Proves network path bound proof → HasBound proof → AreChains network path chains
      → (plan : Option (List ℕ)) → IsSomeAnd plan (λ o. ShowsAfter network path chains o × (flowspan network o ≡ best_bound network history)) → IsSomeAnd plan (λ o. Ties network path o proof chains)
  tie_from path bound proof chains same proves bounded are None shown = shown
  tie_from path bound proof chains same proves bounded are (Some offsets) shown = record {
    bounded = bounded;
    bound = subst (λ target. Proves network path target proof) (same ∙ sym shown.1) proves;
    are_chains = are;
    after = shown.0;
  }

  -- what no history keeps can't be no better
  best-le-tied : (before : List Settlement) (path : List Decision) (bound : ℕ) (chains : List (List ℕ)) → (earlier : Option (List ℕ))
      → IsSomeAnd earlier (λ offsets. (best_bound network before < bound) ⊎ ((bound ≡ best_bound network before) × ShowsAfter network path chains offsets)) → best_bound network before ≤ bound
  best-le-tied before path bound chains None shown = absurd shown
  best-le-tied before path bound chains (Some offsets) (inl worse) = omega arith
  best-le-tied before path bound chains (Some offsets) (inr even) = omega arith

  -- a settlement's node is right for what is kept in the end
  backed : IsLegal network history → (before rest : List Settlement) → history ≡ before ++ rest → (path : List Decision) (outcome : Outcome)
      → ((solution : List ℕ × ℕ) → Contains (solution_of outcome) solution → Contains (solutions history) solution) → IsRight network before path outcome → Backs network (kept_of network history) path outcome
  unfolding node_of solution_of
  backed legal before rest parts path (split triple) own right = right.0
  backed legal before rest parts path (solved offsets bound proof chains) own right =
      let plan : Option (List ℕ) = kept_of network history in
      let target = kept_target network history legal in
      let among = own (offsets, bound) (Contains-head (offsets, bound) []) in
      let low = All-contains (λ b. best_bound network history ≤ b) (solved_bounds history) bound (best-le-solved network history) (solution_among history (offsets, bound) among) in
      choice_right network plan path (bound == target_of network plan) (tie_node proof (chains_until plan offsets chains)) (leaf_node proof)
      (λ is.
      let same : bound ≡ best_bound network history = eqb-true bound (target_of network plan) is ∙ target in
      solved_tie path offsets bound proof chains right.0 right.2 right.3 right.4 (subst (λ b. Contains (solutions history) (offsets, b)) same among) same plan (kept network history legal))
      (λ isnt.
      let differs = eqb-false bound (target_of network plan) isnt in
      leaf_right path proof bound legal right.2 (omega (arith, low, target, differs)))
  backed legal before rest parts path (pruned bound proof) own right =
      let target = kept_target network history legal in
      let fallen : best_bound network history ≤ best_bound network before = subst (λ h. best_bound network h ≤ best_bound network before) (sym parts) (best_bound-append network before rest) in
      let low = right.1 in
      let worse = beyond-le network (target_of network (kept_of network history)) (best_bound network before) (omega (arith, fallen, target)) in
      Proves-lesser network path proof (beyond network (target_of network (kept_of network history))) bound (omega (arith, low, worse)) right.0
  backed legal before rest parts path (tied bound proof chains) own right =
      let plan : Option (List ℕ) = kept_of network history in
      let target = kept_target network history legal in
      let fallen : best_bound network history ≤ best_bound network before = subst (λ h. best_bound network h ≤ best_bound network before) (sym parts) (best_bound-append network before rest) in
      let low = best-le-tied before path bound chains (kept_of network before) right.3 in
      choice_right network plan path (bound == target_of network plan) (tie_node proof chains) (leaf_node proof)
      (λ is.
      let same : bound ≡ best_bound network history = eqb-true bound (target_of network plan) is ∙ target in
      tie_from path bound proof chains same right.0 right.1 right.2 plan
      (tied_after before rest (legal_beginning network before rest (subst (IsLegal network) parts legal)) parts path bound chains same fallen (kept_of network before) refl right.3 plan (kept network history legal)))
      (λ isnt.
      let differs = eqb-false bound (target_of network plan) isnt in
      leaf_right path proof bound legal right.0 (omega (arith, low, fallen, target, differs)))
  backed legal before rest parts path (refuted proof) own right = right (beyond network (target_of network (kept_of network history)))

-- what is right after some history is right after each longer one
pub right_stays : (network : Network) (before rest : List Settlement) → IsLegal network (before ++ rest) → (path : List Decision) (outcome : Outcome) → IsRight network before path outcome → IsRight network (before ++ rest) path outcome
right_stays network before rest legal path (split triple) right = right
right_stays network before rest legal path (solved offsets bound proof chains) right = right
right_stays network before rest legal path (pruned bound proof) right =
    let low = right.1 in
    (right.0, omega (arith, low, beyond-le network (best_bound network (before ++ rest)) (best_bound network before) (best_bound-append network before rest)))
right_stays network before rest legal path (tied bound proof chains) right = (
  right.0,
  right.1,
  right.2,
  stays_no_better network (before ++ rest) before rest (legal_beginning network before rest legal) refl path bound chains (best_bound-append network before rest)
      (kept_of network before) refl right.3 (kept_of network (before ++ rest)) (kept network (before ++ rest) legal),
)
right_stays network before rest legal path (refuted proof) right = right

abbrev BackedFor : Network → Option (List ℕ) → Settlement → Type 0
BackedFor network plan settlement = Backs network plan settlement.event.path settlement.event.outcome

pub history_backed : (network : Network) (history : List Settlement) → IsLegal network history → All (BackedFor network (kept_of network history)) history
history_backed network history legal =
    All-from_Contains (BackedFor network (kept_of network history)) history (λ settlement found.
    let right = settlement_right network history legal settlement found in
    backed network history legal right.0 (settlement ∷ right.1) right.2 settlement.event.path settlement.event.outcome
    (λ solution at. settled_solution history settlement solution found at) right.3.is_right)

-- ---- trees

-- the settlements in some order are an accepted tree
pub finished_tree : (network : Network) (history : List Settlement) → IsLegal network history → open_paths history ≡ []
    → (ordered : List Settlement) × IsPermutation history ordered × AllPairs SettledBefore ordered × TreeOf network (kept_of network history) [] ordered
finished_tree network history legal none_open =
    let plan : Option (List ℕ) = kept_of network history in
    let of = legal_growth network history legal in
    let nothing_left : open_in [] of.growth ≡ [] = nil_from_length (open_in [] of.growth) (of.as_many_open ∙ ap length none_open) in
    let backs = All-permutation (BackedFor network plan) history (in_order of.growth) of.same_settled (history_backed network history legal) in
    (in_order of.growth, of.same_settled, in_order_ordered [] of.growth of.stands, grown_tree network plan [] of.growth of.stands nothing_left backs)

-- the settlements, so ordered that none stands after one that its path precedes, are that tree's nodes
pub ordered_tree : (network : Network) (history : List Settlement) → IsLegal network history → open_paths history ≡ []
    → (ordered : List Settlement) → IsPermutation history ordered → AllPairs (λ a b. SettledBefore b a → ⊥) ordered → TreeOf network (kept_of network history) [] ordered
ordered_tree network history legal none_open ordered same apart =
    let tree = finished_tree network history legal none_open in
    let is : tree.0 ≡ ordered = ordered_same SettledBefore (λ s. Precedes-irreflexive s.event.path) tree.0 ordered tree.2 apart
    (λ s found. Contains-permutation history ordered s same (Contains-permutation tree.0 history s (IsPermutation-sym history tree.0 tree.1) found))
    (λ s found. Contains-permutation history tree.0 s tree.1 (Contains-permutation ordered history s (IsPermutation-sym history ordered same) found))
    (length_permutation history tree.0 tree.1 ∙ sym (length_permutation history ordered same)) in
    subst (TreeOf network (kept_of network history) []) is tree.3

-- where nothing is open, what is kept is the first of the optimal schedules, and where nothing is kept there is no schedule
pub finished_plan : (network : Network) → IsWellFormed network → (history : List Settlement) → IsLegal network history → open_paths history ≡ []
    → MatchOption (kept_of network history) (HasNoSchedule network) (IsFirst network)
finished_plan network formed history legal none_open =
    let tree = (finished_tree network history legal none_open).3 in
    go (kept_of network history) (kept network history legal) tree.tree tree.accepts
  where
    go : (o : Option (List ℕ)) → Keeps network history o → (tree : Tree) → AcceptsFirst network o [] tree → MatchOption o (HasNoSchedule network) (IsFirst network)
    go o (schedule offsets valid is among first) tree accepts = accepted_first network formed offsets valid tree accepts
    go o (nothing is unsolved) tree accepts = accepted_first_none network formed tree accepts

-- ---- in a sound and quiet state the word is the flowspan of what is kept

pub quiet_word : (network : Network) (state : State) → IsSound network state → IsQuiet state → state.word ≡ target_of network (kept_of network state.history)
quiet_word network state sound quiet = word_is_best network state sound quiet.all_posted ∙ sym (kept_target network state.history sound.legal)
