-- When the streams are done after some of them were raised, stream by stream.
use Rattle.std.proofs.Common.{◌≡◌, ◌≢◌, ℕ, ◌+◌, ◌<◌, ◌≤◌, List, length, get_or, Contains, ◌⊎◌, sym, ap, ◌∙◌, subst, arith, inl, inr, refl}
use Rattle.std.specs.Prelude.{slice_set}
use Rattle.std.proofs.lemmas.Bool.{cases_lt, cases_order}
use Rattle.std.proofs.lemmas.List.{get_or-set_same, get_or-set_other, get_or_default, length-set, ext_get_or}
use Rattle.tsn_model.specs.Network.{Network, stream_count}
use Rattle.tsn_model.specs.Timing.{arrival}
use Rattle.tsn_model.specs.Schedule.{offset_of}
use Rattle.tsn_branch.specs.Look.{IsDone, IsOverdue}
use Rattle.tsn_branch.specs.Ends.{EndedBefore}
use Rattle.tsn_branch.proofs.Arrivals.{IsLastSoFar}
use Rattle.tsn_model.proofs.Schedules.{arrival-le-flowspan}

-- the stream at a place of the list
abbrev pub raised_at : List ℕ → ℕ → ℕ
raised_at raised k = get_or raised k 0

-- the first n of the raised streams are done in time
abbrev pub FitSoFar : Network → List ℕ → List ℕ → ℕ → Type 0
FitSoFar network offsets raised n = (k : ℕ) → k < n → k < length raised → IsDone network offsets (raised_at raised k)

-- of the first n this is the least that isn't
pub record IsFirstSoFar (network : Network) (offsets raised : List ℕ) (n first : ℕ) : Type 0 where
  pub counted : first < stream_count network
  pub past : IsOverdue network offsets first
  pub done_before : (k : ℕ) → k < n → k < length raised → raised_at raised k < first → IsDone network offsets (raised_at raised k)

-- ---- the last arrival

-- the offsets of which the first n of the raised streams have their new one: the first stream that arrives last by these, and when
pub record IsLastAmong (network : Network) (offsets raised : List ℕ) (n last end : ℕ) : Type 0 where
  pub now : List ℕ
  pub count : length now ≡ length offsets
  pub done : (k : ℕ) → k < n → k < length raised → offset_of now (raised_at raised k) ≡ offset_of offsets (raised_at raised k)
  pub undone : (i : ℕ) → (Contains raised i → ⊥) → offset_of now i ≡ offset_of offsets i
  pub low : (i : ℕ) → offset_of now i ≤ offset_of offsets i
  pub so_far : IsLastSoFar network now (stream_count network) last end

module _ (network : Network) (offsets raised : List ℕ) where
  pub last-before : (last end : ℕ) → EndedBefore network raised offsets last end → IsLastAmong network offsets raised 0 last end
  last-before last end ended =
      let first = ended.ended.last_first in
      let end_is = ended.ended.end_is in
      let before = ended.before in
      record {
        now = before;
        count = ended.rose.count;
        done = λ k below within. absurd (omega arith);
        undone = λ i never. sym (ended.rose.others i never);
        low = ended.rose.risen;
        so_far = record {
          counted = first.counted;
          arrives = first.arrives ∙ sym end_is;
          sooner_before = λ j lower. let sooner = first.sooner_before j lower in omega arith;
          none_later = λ j below. let most = arrival-le-flowspan network before j below in omega arith;
        };
      }

  abbrev put : List ℕ → ℕ → List ℕ
  put now s = slice_set now s (offset_of offsets s)

  cases_put : (now : List ℕ) (s : ℕ) → s < length now → (P : ℕ → ℕ → Type 0) → P s (offset_of offsets s) → ((i : ℕ) → i ≢ s → P i (offset_of now i)) → (i : ℕ) → P i (offset_of (put now s) i)
  cases_put now s within P here there i = elim (cases_order i s) [
    | inl equal ↦ subst (λ j. P j (offset_of (put now s) j)) (sym equal) (subst (P s) (sym (get_or-set_same now s (offset_of offsets s) 0 within)) here)
    | inr differ ↦
        let apart : i ≢ s = λ e. elim differ [ inl less ↦ omega arith | inr more ↦ omega arith ] in
        subst (P i) (sym (get_or-set_other now s i (offset_of offsets s) 0 apart)) (there i apart)
  ]

  raised_now : (n s last end : ℕ) → raised_at raised n ≡ s → s < length offsets → (so_far : IsLastAmong network offsets raised n last end) → (last' end' : ℕ)
      → IsLastSoFar network (put so_far.now s) (stream_count network) last' end' → IsLastAmong network offsets raised (n + 1) last' end'
  raised_now n s last end is within so_far last' end' all =
      let count = so_far.count in
      let cases = cases_put so_far.now s (omega arith) in
      record {
        now = put so_far.now s;
        count = length-set so_far.now s (offset_of offsets s) ∙ count;
        done = λ k below inside. elim (cases_lt k n) [
          | inl earlier ↦ cases (λ i v. offset_of so_far.now i ≡ offset_of offsets i → v ≡ offset_of offsets i) (λ was. refl) (λ i apart was. was) (raised_at raised k) (so_far.done k earlier inside)
          | inr past ↦
              let here : raised_at raised k ≡ s = ap (raised_at raised) (omega arith) ∙ is in
              subst (λ i. offset_of (put so_far.now s) i ≡ offset_of offsets i) (sym here) (get_or-set_same so_far.now s (offset_of offsets s) 0 (omega arith))
        ];
        undone = λ i never. cases (λ i v. offset_of so_far.now i ≡ offset_of offsets i → v ≡ offset_of offsets i) (λ was. refl) (λ i apart was. was) i (so_far.undone i never);
        low = cases (λ i v. v ≤ offset_of offsets i) (omega arith) (λ i apart. so_far.low i);
        so_far = all;
      }

  pub last-kept : (n s last end next : ℕ) → raised_at raised n ≡ s → s < stream_count network → length offsets ≡ stream_count network → next ≡ offset_of offsets s + arrival network s
      → next ≤ end → (next ≡ end → last ≤ s) → IsLastAmong network offsets raised n last end → IsLastAmong network offsets raised (n + 1) last end
  last-kept n s last end next is counted long next_is not_later not_first so_far =
      let all = so_far.so_far in
      let count = so_far.count in
      let cases = cases_put so_far.now s (omega arith) in
      let arrives = all.arrives in
      let low = so_far.low s in
      raised_now n s last end is (omega arith) so_far last end (record {
        counted = all.counted;
        arrives = cases (λ i v. i ≡ last → v + arrival network i ≡ end)
            (λ same. let was : offset_of so_far.now s + arrival network s ≡ end = subst (λ i. offset_of so_far.now i + arrival network i ≡ end) (sym same) arrives in omega arith)
            (λ i apart same. subst (λ j. offset_of so_far.now j + arrival network j ≡ end) (sym same) arrives) last refl;
        sooner_before = cases (λ i v. i < last → v + arrival network i < end)
            (λ lower. elim (cases_lt next end) [
              | inl less ↦ omega arith
              | inr most ↦ let same : next ≡ end = omega arith in let after = not_first same in absurd (omega arith)
            ])
            (λ i apart lower. all.sooner_before i lower);
        none_later = cases (λ i v. i < stream_count network → v + arrival network i ≤ end) (λ below. omega arith) (λ i apart below. all.none_later i below);
      })

  pub last-taken : (n s last end next : ℕ) → raised_at raised n ≡ s → s < stream_count network → length offsets ≡ stream_count network → next ≡ offset_of offsets s + arrival network s
      → (end < next) ⊎ ((next ≡ end) × (s < last)) → IsLastAmong network offsets raised n last end → IsLastAmong network offsets raised (n + 1) s next
  last-taken n s last end next is counted long next_is later so_far =
      let all = so_far.so_far in
      let count = so_far.count in
      let last_counted = all.counted in
      let cases = cases_put so_far.now s (omega arith) in
      raised_now n s last end is (omega arith) so_far s next (record {
        counted = counted;
        arrives = ap (λ v. v + arrival network s) (get_or-set_same so_far.now s (offset_of offsets s) 0 (omega arith)) ∙ sym next_is;
        sooner_before = cases (λ i v. i < s → v + arrival network i < next) (λ lower. absurd (omega arith))
            (λ i apart lower. elim later [
              | inl more ↦ let most = all.none_later i (omega arith) in omega (arith, more)
              | inr both ↦ let sooner = all.sooner_before i (omega (arith, both.1)) in omega (arith, both.0)
            ]);
        none_later = cases (λ i v. i < stream_count network → v + arrival network i ≤ next) (λ below. omega arith)
            (λ i apart below. let most = all.none_later i below in elim later [ inl more ↦ omega (arith, more) | inr both ↦ omega (arith, both.0) ]);
      })

  -- with all of them raised these are the offsets
  pub last-all : (n last end : ℕ) → length raised ≤ n → length offsets ≡ stream_count network → IsLastAmong network offsets raised n last end → IsLastSoFar network offsets (stream_count network) last end
  last-all n last end whole long so_far =
      let now : so_far.now ≡ offsets = ext_get_or 0 so_far.now offsets so_far.count same in
      subst (λ list. IsLastSoFar network list (stream_count network) last end) now so_far.so_far
    where
      same : (i : ℕ) → i < length so_far.now → offset_of so_far.now i ≡ offset_of offsets i
      same i below = elim (cases_lt (offset_of so_far.now i) (offset_of offsets i)) [
        | inl less ↦
            let never : Contains raised i → ⊥ = λ (k, inside, is).
            let at : raised_at raised k ≡ i = get_or_default raised k 0 i inside ∙ is in
            let done = so_far.done k (omega arith) inside in
            let equal : offset_of so_far.now i ≡ offset_of offsets i = subst (λ j. offset_of so_far.now j ≡ offset_of offsets j) at done in
            omega arith in
            so_far.undone i never
        | inr most ↦ let low = so_far.low i in omega arith
      ]
