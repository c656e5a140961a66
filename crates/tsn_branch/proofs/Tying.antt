-- Lists of offsets compared with the best ones, and the chains that show them.
use Rattle.std.proofs.Common.{◌≡◌, ◌≢◌, ℕ, zero, suc, ◌+◌, ◌≤◌, ◌<◌, List, [], ◌∷◌, take, length, refl, sym, ap, ◌∙◌, subst, arith, inl, inr}
use Rattle.std.specs.Prelude.{nat_eq}
use Rattle.std.proofs.lemmas.Bool.{cases_Bool, cond-true, cond-false, eqb-true, eq-eqb}
use Rattle.std.proofs.lemmas.List.{take_all, ext_get_or}
use Rattle.std.proofs.lemmas.List.FromFn.{length-map-range_with_len, get_or-map-range_with_len, take-map-range_with_len}
use Rattle.tsn_model.specs.declared.Decision.{Decision}
use Rattle.tsn_model.specs.Network.{Network, stream_count}
use Rattle.tsn_model.specs.Schedule.{offset_of, common}
use Rattle.tsn_model.specs.Arcs.{arcs_of}
use Rattle.tsn_model.specs.Certificate.{LeadsTo, sum_on, chain_at}
use Rattle.tsn_model.specs.Search.{ShowsOffsets}
use Rattle.tsn_model.proofs.ListOrder.{before_at}
use Rattle.tsn_diff.specs.Offsets.{LeastOffsets, chain_of}
use Rattle.tsn_diff.specs.Answers.{Solves}
use Rattle.tsn_branch.specs.Releases.{releases_of}
use Rattle.tsn_branch.specs.Look.{ShowsUpto}
use Rattle.tsn_branch.specs.Chains.{chains_upto, IsCompared}
use Rattle.tsn_branch.proofs.Leasts.{count, IsShownBy-from}

-- ---- where two lists differ

common_at : (xs ys : List ℕ) (k : ℕ) → k < length xs → k < length ys → ((i : ℕ) → i < k → offset_of xs i ≡ offset_of ys i) → offset_of xs k ≢ offset_of ys k → common xs ys ≡ k
unfolding common
common_at [] ys k in_first in_second same differ = absurd (omega arith)
common_at (x ∷ xs) [] k in_first in_second same differ = absurd (omega arith)
common_at (x ∷ xs) (y ∷ ys) zero in_first in_second same differ =
    elim (cases_Bool (nat_eq x y)) [ inl is ↦ absurd (differ (eqb-true x y is)) | inr isnt ↦ cond-false (nat_eq x y) (suc (common xs ys)) 0 isnt ]
common_at (x ∷ xs) (y ∷ ys) (suc k) in_first in_second same differ =
    cond-true (nat_eq x y) (suc (common xs ys)) 0 (eq-eqb x y (same 0 (omega arith)))
    ∙ ap suc (common_at xs ys k (omega arith) (omega arith) (λ i below. same (suc i) (omega arith)) differ)

common_all : (xs ys : List ℕ) → length xs ≡ length ys → ((i : ℕ) → i < length xs → offset_of xs i ≡ offset_of ys i) → common xs ys ≡ length xs
unfolding common
common_all [] ys long same = refl
common_all (x ∷ xs) [] long same = absurd (omega arith)
common_all (x ∷ xs) (y ∷ ys) long same =
    cond-true (nat_eq x y) (suc (common xs ys)) 0 (eq-eqb x y (same 0 (omega arith)))
    ∙ ap suc (common_all xs ys (omega arith) (λ i below. same (suc i) (omega arith)))

module _ (offsets best : List ℕ) (long : length best ≡ length offsets) where
  pub compared_at : (k : ℕ) → k < length offsets → ((i : ℕ) → i < k → offset_of offsets i ≡ offset_of best i) → offset_of best k < offset_of offsets k → IsCompared offsets best (k + 1)
  compared_at k below same greater =
      let at = common_at offsets best k below (omega arith) same (λ is. absurd (omega (arith, greater, is))) in
      record {
        not_before = inr (before_at best offsets k (omega arith) below (λ i low. sym (same i low)) greater);
        some = omega arith;
        within = omega arith;
        upto = inl (ap (λ n. n + 1) (sym at));
      }

  pub compared_all : 1 ≤ length offsets → ((i : ℕ) → i < length offsets → offset_of offsets i ≡ offset_of best i) → IsCompared offsets best (length offsets)
  compared_all some same = record {
    not_before = inl (ext_get_or 0 best offsets long (λ i below. sym (same i (omega arith))));
    some = some;
    within = omega arith;
    upto = inr (refl, common_all offsets best (sym long) same);
  }

-- ---- the chains

module _ (network : Network) (path : List Decision) (lowest : LeastOffsets) (solves : Solves (releases_of network) (arcs_of network path) lowest) where
  chain_upto : (i : ℕ) → i < stream_count network → chain_at (chains_upto lowest (stream_count network)) i ≡ chain_of lowest i
  chain_upto i below = get_or-map-range_with_len (chain_of lowest) 0 (stream_count network) i i [] below (omega arith)

  pub upto_shows : ShowsOffsets network path (chains_upto lowest (stream_count network)) lowest.offsets
  upto_shows = (
    length-map-range_with_len (chain_of lowest) 0 (stream_count network),
    (λ i below.
        let low : i < stream_count network = omega (arith, below, length-map-range_with_len (chain_of lowest) 0 (stream_count network)) in
        subst (λ chain. LeadsTo network path chain i) (sym (chain_upto i low)) (IsShownBy-from network path lowest solves i low).leads),
    (λ i below. ap (λ chain. sum_on network path chain i) (chain_upto i below) ∙ (IsShownBy-from network path lowest solves i below).sum),
  )

  pub upto_tie : (best : List ℕ) (n : ℕ) → IsCompared lowest.offsets best n → ShowsUpto network path lowest.offsets best (chains_upto lowest n)
  upto_tie best n compared =
      let long = count network path lowest solves in
      let within = compared.within in
      let all = length-map-range_with_len (chain_of lowest) 0 (stream_count network) in (
        chains_upto lowest (stream_count network),
        upto_shows,
        elim compared.upto [
          | inl is ↦
              sym (take-map-range_with_len (chain_of lowest) 0 (stream_count network) n (omega arith)) ∙ ap (λ k. take k (chains_upto lowest (stream_count network))) is
          | inr (whole, same) ↦
              ap (chains_upto lowest) (whole ∙ long) ∙ sym (take_all (common lowest.offsets best + 1) (chains_upto lowest (stream_count network)) (omega (arith, whole, same, long, all)))
        ],
      )
