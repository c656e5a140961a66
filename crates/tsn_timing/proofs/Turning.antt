-- A stream's shifts, turn by turn, and the part of them that two numbers leave.
use Rattle.std.proofs.Common.{◌≡◌, ℕ, zero, suc, ◌+◌, ◌-◌, ◌*◌, ◌≤◌, ◌<◌, ℤ, pos, List, [], ◌∷◌, ◌++◌, All, length, map, take, drop, flat_map, refl, sym, ap, ap₂, ◌∙◌, subst, arith, append_assoc, length-append, suc-mul, mul-le-mul}
use Rattle.std.specs.Prelude.{◌≤ℤ◌}
use Rattle.std.proofs.Math.Nat.{add-mul}
use Rattle.std.specs.List.{range_with_len}
use Rattle.std.proofs.lemmas.Int.{ints}
use Rattle.std.proofs.lemmas.Grind.{flat_map-append}
use Rattle.std.proofs.lemmas.List.{drop_at, take_at}
use Rattle.std.proofs.lemmas.List.FromFn.{length-map-range_with_len}
use Rattle.tsn_model.specs.Network.{Network, IsWellFormed, stream_count, turns_of, period_of, burst_of}
use Rattle.tsn_model.specs.Timing.{pace, spread, shifts}
use Rattle.tsn_model.proofs.Lists.{All-range, All-map-range, All-flat_map}
use Rattle.tsn_model.proofs.Shifts.{place-le, period-pos, whole_cycle}
use Rattle.tsn_timing.specs.Between.{IsPartBetween}
use Rattle.tsn_timing.proofs.Sending.{of_place, of_turn, all_turns}

range_split : (a m n k : ℕ) → k ≡ m + n → range_with_len a k ≡ range_with_len a m ++ range_with_len (a + m) n
range_split a zero n k is = ap₂ range_with_len (omega arith) (omega arith)
range_split a (suc m) n zero is = absurd (omega arith)
range_split a (suc m) n (suc k) is =
    let start : (a + 1) + m ≡ a + suc m = omega arith in
    ap (λ xs. a ∷ xs) (range_split (a + 1) m n k (omega arith) ∙ ap (λ b. range_with_len (a + 1) m ++ range_with_len b n) start)

module _ (network : Network) (i : ℕ) where
  -- the shifts of so many turns from one on
  abbrev pub turns_from : ℕ → ℕ → List ℕ
  turns_from a n = flat_map (of_turn network i (burst_of network i)) (range_with_len a n)

  length_turns : (a n : ℕ) → length (turns_from a n) ≡ n * burst_of network i
  length_turns a zero = omega arith
  length_turns a (suc n) =
      let rest = length_turns (a + 1) n in
      let first = length-map-range_with_len (of_place network i a) 0 (burst_of network i) in
      let both = length-append (of_turn network i (burst_of network i) a) (turns_from (a + 1) n) in
      let more = suc-mul n (burst_of network i) in
      omega arith

  each_turn : (P : ℕ → Type 0) (a n : ℕ)
      → ((turn place : ℕ) → a ≤ turn → turn < a + n → place < burst_of network i → P (of_place network i turn place))
      → All P (turns_from a n)
  each_turn P a n each =
      All-flat_map P (of_turn network i (burst_of network i)) (range_with_len a n)
      (All-range (λ turn. All P (of_turn network i (burst_of network i) turn)) n a
      (λ turn low high. All-map-range P (of_place network i turn) (burst_of network i) 0
      (λ place _ inside. each turn place low high (omega arith))))

  turns_split : (a m n k : ℕ) → k ≡ m + n → turns_from a k ≡ turns_from a m ++ turns_from (a + m) n
  turns_split a m n k is =
      ap (flat_map (of_turn network i (burst_of network i))) (range_split a m n k is)
      ∙ flat_map-append (of_turn network i (burst_of network i)) (range_with_len a m) (range_with_len (a + m) n)

  module _ (done begun : ℕ) (ordered : done ≤ begun) (within : begun ≤ turns_of network i) where
    abbrev pub part : List ℕ
    part = turns_from done (begun - done)

    abbrev rest : List ℕ
    rest = turns_from begun (turns_of network i - begun)

    whole : shifts network i ≡ turns_from 0 done ++ (part ++ rest)
    whole =
        let start : 0 + done ≡ done = omega arith in
        let middle : done + (begun - done) ≡ begun = omega arith in
        sym (all_turns network i) ∙ turns_split 0 done (turns_of network i - done) (turns_of network i) (omega arith)
        ∙ ap (λ a. turns_from 0 done ++ turns_from a (turns_of network i - done)) start
        ∙ ap (λ xs. turns_from 0 done ++ xs)
        (turns_split done (begun - done) (turns_of network i - begun) (turns_of network i - done) (omega arith)
        ∙ ap (λ a. part ++ turns_from a (turns_of network i - begun)) middle)

    pub part_taken : (first last : ℕ) → first ≡ done * burst_of network i → last ≡ begun * burst_of network i
        → take (last - first) (drop first (shifts network i)) ≡ part
    part_taken first last first_is last_is =
        let before = length_turns 0 done in
        let inside = length_turns done (begun - done) in
        let whole_part : begun ≡ done + (begun - done) = omega arith in
        let split : begun * burst_of network i ≡ done * burst_of network i + (begun - done) * burst_of network i =
        ap (λ n. n * burst_of network i) whole_part
        ∙ add-mul done (begun - done) (burst_of network i) in
        ap (λ xs. take (last - first) (drop first xs)) whole
        ∙ ap (take (last - first)) (drop_at (turns_from 0 done) (part ++ rest) first (omega arith))
        ∙ take_at part rest (last - first) (omega arith)

    pub is_part : (low high : ℤ) → ((turn : ℕ) → turn < done → pos (turn * period_of network i + spread network i) ≤ℤ low)
        → ((turn : ℕ) → begun ≤ turn → turn < turns_of network i → high ≤ℤ pos (turn * period_of network i))
        → IsPartBetween network i low high part
    is_part low high early late = record {
      before = turns_from 0 done;
      after = rest;
      whole = whole;
      early = each_turn (λ shift. pos shift ≤ℤ low) 0 done (λ turn place _ below in_burst.
          let last = early turn (omega arith) in
          let near = place-le network i place in_burst in
          omega (arith, ints, last, near));
      late = each_turn (λ shift. high ≤ℤ pos shift) begun (turns_of network i - begun) (λ turn place above below in_burst.
          let first = late turn above (omega arith) in
          omega (arith, ints, first));
    }

  pub turns-le : IsWellFormed network → i < stream_count network → turns_of network i ≤ 1000000000
  turns-le formed counted =
      let whole = whole_cycle network i formed counted in
      let some = period-pos network i formed counted in
      let same : turns_of network i ≤ turns_of network i = omega arith in
      let least = mul-le-mul same some in
      let short = formed.short_cycle in
      omega arith

  pub length-shifts : length (shifts network i) ≡ turns_of network i * burst_of network i
  length-shifts = ap length (sym (all_turns network i)) ∙ length_turns 0 (turns_of network i)
