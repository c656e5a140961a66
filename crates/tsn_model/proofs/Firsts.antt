-- A valid schedule with an accepted tree of format 2 is the first of the optimal ones.
use Rattle.std.proofs.Common.{◌≡◌, ℕ, zero, suc, ◌+◌, ◌≤◌, ◌<◌, ◌⊎◌, List, [], ◌∙◌, sym, subst, arith, inl, inr, Some, None}
use Rattle.std.proofs.lemmas.Int.{ints}
use Rattle.std.proofs.lemmas.Bool.{cases_lt}
use Rattle.std.proofs.lemmas.List.{ext_get_or}
use Rattle.tsn_model.specs.declared.Decision.{Decision}
use Rattle.tsn_model.specs.Network.{Network, IsWellFormed, stream_count}
use Rattle.tsn_model.specs.Schedule.{IsValid, flowspan, offset_of, target_of, HasNoSchedule, ComesBefore, IsNotAfter, IsFirst}
use Rattle.tsn_model.specs.Arcs.{arcs_of, HoldsAll}
use Rattle.tsn_model.specs.Certificate.{Leaf, Proves, beyond, chain_at, AreChains, ShowsAfter, Ties, Tree, IsNodeFirst, AcceptsFirst}
use Rattle.tsn_model.proofs.ListOrder.{before_at, before_one_way, ordered}
use Rattle.tsn_model.proofs.Schedules.{flowspan-le-cycle}
use Rattle.tsn_model.proofs.Soundness.{sum-below, leaf_sound, accepted_shows, HoldsAll-root}

-- ---- offsets that are nowhere less

-- where no number of the first list is above that of the second, they are the same, or differ at a first place at which it is less
first_less : (xs ys : List ℕ) (k : ℕ) → ((i : ℕ) → i < k → offset_of xs i ≤ offset_of ys i)
    → ((j : ℕ) × (j < k) × ((i : ℕ) → i < j → offset_of xs i ≡ offset_of ys i) × (offset_of xs j < offset_of ys j)) ⊎ ((i : ℕ) → i < k → offset_of xs i ≡ offset_of ys i)
first_less xs ys zero low = inr (λ i below. absurd (omega arith))
first_less xs ys (suc k) low =
    elim (first_less xs ys k (λ i below. low i (omega arith))) [
      | inl found ↦ inl (found.0, omega arith, found.2, found.3)
      | inr same ↦ elim (cases_lt (offset_of xs k) (offset_of ys k)) [
        | inl less ↦ inl (k, omega arith, same, less)
        | inr not_less ↦
            let last : offset_of xs k ≡ offset_of ys k = let here = low k (omega arith) in omega arith in
            inr (λ i below. elim (cases_lt i k) [ inl earlier ↦ same i earlier | inr at ↦ same_at xs ys k i last (omega arith) ])
      ]
    ]
  where
    same_at : (xs ys : List ℕ) (k i : ℕ) → offset_of xs k ≡ offset_of ys k → i ≡ k → offset_of xs i ≡ offset_of ys i
    same_at xs ys k i last is = rw is last

-- ---- what a tie shows

module _ (network : Network) (formed : IsWellFormed network) (plan : List ℕ) (planned : IsValid network plan) (offsets : List ℕ) (valid : IsValid network offsets) where
  -- its flowspan is worse; or not better, and it doesn't come before the plan
  abbrev IsNoBetter : Type 0
  IsNoBetter = (flowspan network plan < flowspan network offsets) ⊎ ((flowspan network plan ≤ flowspan network offsets) × IsNotAfter plan offsets)

  not_before_at : (k : ℕ) → k < stream_count network → ((i : ℕ) → i < k → offset_of plan i ≤ offset_of offsets i) → offset_of plan k < offset_of offsets k → ComesBefore plan offsets
  not_before_at k below low less =
      elim (first_less plan offsets k low) [
        | inl found ↦ before_at plan offsets found.0 (omega arith) (omega arith) found.2 found.3
        | inr same ↦ before_at plan offsets k (omega arith) (omega arith) same less
      ]

  not_before : ((i : ℕ) → i < stream_count network → offset_of plan i ≤ offset_of offsets i) → IsNotAfter plan offsets
  not_before low =
      let many = planned.count in
      let as_many = valid.count in
      elim (first_less plan offsets (stream_count network) low) [
        | inl found ↦ inr (before_at plan offsets found.0 (omega arith) (omega arith) found.2 found.3)
        | inr same ↦ inl (ext_get_or 0 plan offsets (many ∙ sym as_many) (λ i below. same i (omega arith)))
      ]

  module _ (path : List Decision) (held : HoldsAll offsets (arcs_of network path)) where
    after_sound : (chains : List (List ℕ)) → AreChains network path chains → ShowsAfter network path chains plan → IsNotAfter plan offsets
    after_sound chains are (inl past) =
        let k : ℕ = past.0 in
        let leads = are k past.1 in
        let low = λ (i : ℕ) (below : i < k).
        let sum = past.2 i below in
        let offset = sum-below network formed offsets valid path held (chain_at chains i) i (are i (omega arith)) in
        let is : offset_of plan i ≤ offset_of offsets i = omega (arith, ints, sum, offset) in
        is in
        let here = sum-below network formed offsets valid path held (chain_at chains k) k leads in
        let above = past.3 in
        inr (not_before_at k leads.stream low (omega (arith, ints, here, above)))
    after_sound chains are (inr whole) =
        not_before (λ i below.
        let sum = whole.1 i below in
        let offset = sum-below network formed offsets valid path held (chain_at chains i) i (are i (omega arith)) in
        omega (arith, ints, sum, offset))

    beyond_sound : (proof : Leaf) → Proves network path (beyond network (flowspan network plan)) proof → IsNoBetter
    unfolding beyond
    beyond_sound proof proves =
        let low = leaf_sound network formed offsets valid path held (beyond network (flowspan network plan)) proof proves in
        let within = flowspan-le-cycle network offsets valid in
        inl (omega arith)

    tie_sound : (proof : Leaf) (chains : List (List ℕ)) → Ties network path plan proof chains → IsNoBetter
    tie_sound proof chains ties =
        inr (leaf_sound network formed offsets valid path held (flowspan network plan) proof ties.bound, after_sound chains ties.are_chains ties.after)

  pub no_better : (tree : Tree) → AcceptsFirst network (Some plan) [] tree → IsNoBetter
  unfolding target_of
  no_better tree accepts =
      accepted_shows network formed offsets valid (IsNodeFirst network (Some plan)) IsNoBetter
      (λ path triple conflict. conflict)
      (λ path proof held proves. beyond_sound path held proof proves)
      (λ path proof chains held ties. tie_sound path held proof chains ties)
      tree [] accepts (HoldsAll-root network offsets)

pub accepted_first : (network : Network) → IsWellFormed network → (offsets : List ℕ) → IsValid network offsets → (tree : Tree) → AcceptsFirst network (Some offsets) [] tree → IsFirst network offsets
accepted_first network formed offsets valid tree accepts = record {
  optimal = record {
    valid = valid;
    least = λ other other_valid.
        elim (no_better network formed offsets valid other other_valid tree accepts) [ inl worse ↦ omega arith | inr even ↦ even.0 ];
  };
  before_others = λ other other_valid same differs.
      elim (no_better network formed offsets valid other other_valid tree accepts) [
        | inl worse ↦ absurd (omega arith)
        | inr even ↦ elim even.1 [ inl is ↦ absurd (differs (sym is)) | inr before ↦ before ]
      ];
}

pub accepted_first_none : (network : Network) → IsWellFormed network → (tree : Tree) → AcceptsFirst network None [] tree → HasNoSchedule network
unfolding target_of beyond
accepted_first_none network formed tree accepts = record {
  none = λ offsets valid.
      let within = flowspan-le-cycle network offsets valid in
      let above : network.cycle + 1 ≤ flowspan network offsets =
      accepted_shows network formed offsets valid (IsNodeFirst network None) (network.cycle + 1 ≤ flowspan network offsets)
      (λ path triple conflict. conflict)
      (λ path proof held proves. let low = leaf_sound network formed offsets valid path held (beyond network (network.cycle + 1)) proof proves in omega arith)
      (λ path proof chains held none. absurd none)
      tree [] accepts (HoldsAll-root network offsets) in
      omega arith;
}

-- two first optimal schedules are one
pub first_once : (network : Network) (offsets other : List ℕ) → IsFirst network offsets → IsFirst network other → offsets ≡ other
first_once network offsets other first second =
    let low = first.optimal.least other second.optimal.valid in
    let high = second.optimal.least offsets first.optimal.valid in
    let spans : flowspan network offsets ≡ flowspan network other = omega arith in
    elim (ordered offsets other (first.optimal.valid.count ∙ sym second.optimal.valid.count)) [
      | inl same ↦ same
      | inr (inl before) ↦ absurd (before_one_way offsets other before
          (second.before_others offsets first.optimal.valid spans (λ same. before_one_way offsets other before (subst (λ xs. ComesBefore xs offsets) same (subst (ComesBefore offsets) (sym same) before)))))
      | inr (inr after) ↦ absurd (before_one_way other offsets after
          (first.before_others other second.optimal.valid (sym spans) (λ same. before_one_way other offsets after (subst (λ xs. ComesBefore xs other) same (subst (ComesBefore other) (sym same) after)))))
    ]
