-- Chains that show a tie with one plan, and what they show of another.
use Rattle.std.proofs.Common.{◌≡◌, ◌≢◌, ℕ, zero, suc, ◌+◌, ◌≤◌, ◌<◌, List, [], ◌∷◌, take, length, ℤ, pos, ◌<ℤ◌, sym, ap, ◌∙◌, subst, arith, inl, inr}
use Rattle.std.specs.Prelude.{nat_eq}
use Rattle.std.proofs.lemmas.Int.{ints}
use Rattle.std.proofs.lemmas.Bool.{cases_Bool, cases_lt, cond-true, cond-false, eqb-true, eq-eqb, both_ways}
use Rattle.std.proofs.lemmas.List.{get_or-take, length-take}
use Rattle.tsn_model.specs.declared.Decision.{Decision}
use Rattle.tsn_model.specs.Network.{Network, stream_count}
use Rattle.tsn_model.specs.Schedule.{offset_of, IsNotAfter, common}
use Rattle.tsn_model.specs.Certificate.{LeadsTo, sum_on, chain_at, AreChains, ShowsAfter}
use Rattle.tsn_model.specs.Search.{ShowsOffsets}
use Rattle.tsn_model.proofs.ListOrder.{before_same}

-- ---- a plan that comes sooner

module _ (network : Network) (path : List Decision) (chains : List (List ℕ)) where
  abbrev sum_at : ℕ → ℤ
  sum_at i = sum_on network path (chain_at chains i) i

  lower : (sooner plan : List ℕ) (p k : ℕ) → p ≡ k → offset_of sooner p < offset_of plan p → pos (offset_of plan k) <ℤ sum_at k → pos (offset_of sooner p) <ℤ sum_at p
  lower sooner plan p k is less past =
      let here : pos (offset_of plan p) <ℤ sum_at p = subst (λ i. pos (offset_of plan i) <ℤ sum_at i) (sym is) past in
      omega (arith, ints, here, less)

  -- chains that show that no schedule comes before a plan show it of each plan that doesn't come after it
  pub after_sooner : (sooner plan : List ℕ) → length plan ≡ stream_count network → IsNotAfter sooner plan → ShowsAfter network path chains plan → ShowsAfter network path chains sooner
  after_sooner sooner plan count (inl same) after = subst (ShowsAfter network path chains) (sym same) after
  after_sooner sooner plan count (inr before) (inl past) =
      let p : ℕ = before.0 in
      let k : ℕ = past.0 in
      let inside = past.1 in
      elim (cases_lt k p) [
        | inl first ↦
            let here = before_same sooner plan before k first in
            let over = past.3 in
            inl (
              k,
              inside,
              (λ i below. past.2 i below ∙ ap pos (sym (before_same sooner plan before i (omega arith)))),
              omega (arith, ints, here, over),
            )
        | inr later ↦ inl (
          p,
          omega arith,
          (λ i below. past.2 i (omega arith) ∙ ap pos (sym (before_same sooner plan before i below))),
          elim (cases_lt p k) [
            | inl less ↦ let sum = past.2 p less in let under = before.4 in omega (arith, ints, sum, under)
            | inr not_less ↦ lower sooner plan p k (omega arith) before.4 past.3
          ],
        )
      ]
  after_sooner sooner plan count (inr before) (inr whole) =
      let p : ℕ = before.0 in
      let sum = whole.1 p (omega arith) in
      let under = before.4 in
      inl (p, omega arith, (λ i below. whole.1 i (omega arith) ∙ ap pos (sym (before_same sooner plan before i below))), omega (arith, ints, sum, under))

-- ---- what two lists have in common

record IsCommon (xs ys : List ℕ) (n : ℕ) : Type 0 where
  same : (i : ℕ) → i < n → offset_of xs i ≡ offset_of ys i
  in_first : n ≤ length xs
  in_second : n ≤ length ys
  differs : n < length xs → n < length ys → offset_of xs n ≢ offset_of ys n

common_more : (x y : ℕ) (xs ys : List ℕ) (n : ℕ) → x ≡ y → IsCommon xs ys n → IsCommon (x ∷ xs) (y ∷ ys) (suc n)
common_more x y xs ys n is rest =
    let in_first = rest.in_first in
    let in_second = rest.in_second in
    record {
      same = go;
      in_first = omega arith;
      in_second = omega arith;
      differs = λ first second. rest.differs (omega arith) (omega arith);
    }
  where
    go : (i : ℕ) → i < suc n → offset_of (x ∷ xs) i ≡ offset_of (y ∷ ys) i
    go zero below = is
    go (suc i) below = rest.same i (omega arith)

common_is : (xs ys : List ℕ) → IsCommon xs ys (common xs ys)
unfolding common
common_is [] ys = record { same = λ i below. absurd (omega arith); in_first = omega arith; in_second = omega arith; differs = λ first second. absurd (omega arith) }
common_is (x ∷ xs) [] = record { same = λ i below. absurd (omega arith); in_first = omega arith; in_second = omega arith; differs = λ first second. absurd (omega arith) }
common_is (x ∷ xs) (y ∷ ys) =
    elim (cases_Bool (nat_eq x y)) [
      | inl is ↦ subst (IsCommon (x ∷ xs) (y ∷ ys)) (sym (cond-true (nat_eq x y) (suc (common xs ys)) 0 is)) (common_more x y xs ys (common xs ys) (eqb-true x y is) (common_is xs ys))
      | inr isnt ↦ subst (IsCommon (x ∷ xs) (y ∷ ys)) (sym (cond-false (nat_eq x y) (suc (common xs ys)) 0 isnt)) (record {
        same = λ i below. absurd (omega arith);
        in_first = omega arith;
        in_second = omega arith;
        differs = λ first second same. both_ways (nat_eq x y) isnt (eq-eqb x y same);
      })
    ]

-- the first of two lists that doesn't come after the other is less at the first place where they differ
less_at : (plan offsets : List ℕ) (n : ℕ) → IsCommon offsets plan n → n < length offsets → n < length plan → IsNotAfter plan offsets → offset_of plan n < offset_of offsets n
less_at plan offsets n are first second (inl same) = absurd (are.differs first second (ap (λ xs. offset_of xs n) (sym same)))
less_at plan offsets n are first second (inr before) =
    let p : ℕ = before.0 in
    let less = before.4 in
    elim (cases_lt p n) [
      | inl sooner ↦ let same = are.same p sooner in absurd (omega (arith, less, same))
      | inr not_sooner ↦ elim (cases_lt n p) [
        | inl later ↦ absurd (are.differs first second (sym (before_same plan offsets before n later)))
        | inr not_later ↦ let is : p ≡ n = omega arith in subst (λ i. offset_of plan i < offset_of offsets i) is less
      ]
    ]

-- ---- the chains of a solved leaf

module _ (network : Network) (path : List Decision) (chains : List (List ℕ)) (offsets plan : List ℕ) (shows : ShowsOffsets network path chains offsets) where
  abbrev shown : List (List ℕ)
  shown = take (common offsets plan + 1) chains

  shown_at : (i : ℕ) → i < common offsets plan + 1 → chain_at shown i ≡ chain_at chains i
  shown_at i below = get_or-take (common offsets plan + 1) chains i [] below

  pub shown_chains : AreChains network path shown
  shown_chains i below =
      let many = length-take (common offsets plan + 1) chains in
      subst (λ chain. LeadsTo network path chain i) (sym (shown_at i (omega (arith, many, below)))) (shows.1 i (omega (arith, many, below)))

  pub shown_after : length offsets ≡ stream_count network → length plan ≡ stream_count network → IsNotAfter plan offsets → ShowsAfter network path shown plan
  shown_after counted planned before =
      let n : ℕ = common offsets plan in
      let are = common_is offsets plan in
      let many = length-take (n + 1) chains in
      let sums = λ (i : ℕ) (below : i < n + 1) (in_range : i < stream_count network).
      let is : sum_on network path (chain_at shown i) i ≡ pos (offset_of offsets i) = ap (λ chain. sum_on network path chain i) (shown_at i below) ∙ shows.2 i in_range in
      is in
      elim (cases_lt n (stream_count network)) [
        | inl inside ↦
            let less = less_at plan offsets n are (omega arith) (omega arith) before in
            let sum = sums n (omega arith) inside in
            inl (n, omega (arith, many), (λ i below. sums i (omega arith) (omega arith) ∙ ap pos (are.same i below)), omega (arith, ints, less, sum))
        | inr whole ↦ inr (omega (arith, many), (λ i below. sums i (omega arith) below ∙ ap pos (are.same i (omega arith))))
      ]
