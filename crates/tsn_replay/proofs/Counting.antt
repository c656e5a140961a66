-- How many frames the streams send in a cycle, and where each of them stands.
use Rattle.std.proofs.Common.{◌≡◌, ℕ, zero, suc, ◌+◌, ◌-◌, ◌*◌, ◌≤◌, ◌<◌, ◌==◌, List, [], ◌∷◌, ◌++◌, map, take, sum_by, length, get_or, AllPairs, true, false, ltb, ltb-true, refl, sym, ap, ◌∙◌, subst, arith, inl, inr, suc-mul, mul-le-mul, mul-add, eqb-true, eq-eqb}
use Rattle.std.specs.List.{flat_map, range_with_len}
use Rattle.std.specs.List.Sorted.{IsPartitionedBy, IsPartitionPoint}
use Rattle.std.proofs.lemmas.Bool.{cases_lt, cases_order, ne_eqb, ltb-false, lt-ltb, false≢true}
use Rattle.std.proofs.lemmas.List.{length-append, length-map, get_or_default}
use Rattle.std.proofs.lemmas.List.FromFn.{length-range_with_len}
use Rattle.std.proofs.Math.ListN.{get_or-append}
use Rattle.std.proofs.Math.Seq.{get_or-append_seam}
use Rattle.std.proofs.lemmas.List.Sums.{sum_by_push, sum_by_more, sum_by-take-le, position_or_len_is, passes_at_first, fails_before_first}
use Rattle.tsn_model.specs.Network.{Network, Stream, IsWellFormed, stream_count, no_stream, stream_at, period_of, turns_of, burst_of, hop_count, frame_count}
use Rattle.tsn_model.specs.Timing.{pace, shifts, Sends}
use Rattle.tsn_model.proofs.Lists.{range_more}
use Rattle.tsn_model.proofs.Limits.{hops-le}
use Rattle.tsn_model.proofs.Hops.{cycle_below}
use Rattle.tsn_replay.specs.Frames.{frames_below, visits_below, place_of, first_visit, frames_of, index_of, AreFirsts}

-- pieces of one length
pub length_pieces : {X Y : Type 0} (f : X → List Y) (size : ℕ) → ((x : X) → length (f x) ≡ size) → (xs : List X)
    → length (flat_map f xs) ≡ length xs * size
length_pieces f size same [] = omega arith
length_pieces f size same (x ∷ xs) =
    let rest = length_pieces f size same xs in
    let whole = length-append (f x) (flat_map f xs) in
    let product = suc-mul (length xs) size in
    omega arith

module _ (network : Network) where
  pub below-more : (i : ℕ) → frames_below network (i + 1) ≡ frames_below network i + length (shifts network i)
  unfolding frames_below
  below-more i = grind (arith, range_more, sum_by_push)

  pub below-zero : frames_below network 0 ≡ 0
  unfolding frames_below
  below-zero = refl

  below_after : (i more : ℕ) → frames_below network i ≤ frames_below network (i + more)
  below_after i zero = let same : frames_below network i ≡ frames_below network (i + 0) =
      ap (frames_below network) (omega arith) in omega arith
  below_after i (suc more) =
      let before = below_after i more in
      let next = below-more (i + more) in
      let same : frames_below network (i + more + 1) ≡ frames_below network (i + suc more) = ap (frames_below network) (omega arith) in
      omega arith

  pub below-le : (i j : ℕ) → i ≤ j → frames_below network i ≤ frames_below network j
  below-le i j order =
      let after = below_after i (j - i) in
      let same : frames_below network (i + (j - i)) ≡ frames_below network j = ap (frames_below network) (omega arith) in
      omega arith

  -- ---- the same by hops

  pub visits-more : (i : ℕ) → visits_below network (i + 1) ≡ visits_below network i + hop_count network i * length (shifts network i)
  unfolding visits_below
  visits-more i = grind (arith, range_more, sum_by_push)

  pub visits-zero : visits_below network 0 ≡ 0
  unfolding visits_below
  visits-zero = refl

  visits_after : (i more : ℕ) → visits_below network i ≤ visits_below network (i + more)
  visits_after i zero = let same : visits_below network i ≡ visits_below network (i + 0) =
      ap (visits_below network) (omega arith) in omega arith
  visits_after i (suc more) =
      let before = visits_after i more in
      let next = visits-more (i + more) in
      let same : visits_below network (i + more + 1) ≡ visits_below network (i + suc more) = ap (visits_below network) (omega arith) in
      omega arith

  pub visits-le : (i j : ℕ) → i ≤ j → visits_below network i ≤ visits_below network j
  visits-le i j order =
      let after = visits_after i (j - i) in
      let same : visits_below network (i + (j - i)) ≡ visits_below network j = ap (visits_below network) (omega arith) in
      omega arith

  -- the blocks of a stream's hops come one after another, before those of the next stream
  pub hops-le-hops : (i k l : ℕ) → k ≤ l → first_visit network i k ≤ first_visit network i l
  hops-le-hops i k l order =
      let product : k * length (shifts network i) ≤ l * length (shifts network i) = mul-le-mul order (omega arith) in
      omega arith

  pub hops-le-next : (i k : ℕ) → k ≤ hop_count network i → first_visit network i k ≤ visits_below network (i + 1)
  hops-le-next i k order =
      let next = visits-more i in
      let product : k * length (shifts network i) ≤ hop_count network i * length (shifts network i) = mul-le-mul order (omega arith) in
      omega arith

  pub first-le : (i j k l : ℕ) → i < j → k ≤ hop_count network i → first_visit network i k ≤ first_visit network j l
  first-le i j k l order inside =
      let next = hops-le-next i k inside in
      let more = visits-le (i + 1) j (omega arith) in
      omega arith

  pub times-le : (cycles a b : ℕ) → a ≤ b → a * cycles ≤ b * cycles
  times-le cycles a b order = mul-le-mul order (omega arith)

  -- a number is in one block alone
  pub one_visit : (cycles i j k l number : ℕ) → k < hop_count network i → l < hop_count network j
      → first_visit network i k * cycles ≤ number → number < first_visit network i (k + 1) * cycles
      → first_visit network j l * cycles ≤ number → number < first_visit network j (l + 1) * cycles → (i ≡ j) × (k ≡ l)
  one_visit cycles i j k l number k_below l_below from_i upto_i from_j upto_j =
      let stream : i ≡ j = elim (cases_order i j) [
        | inl same ↦ same
        | inr differ ↦ elim differ [
          | inl less ↦ let past =
              times-le cycles (first_visit network i (k + 1)) (first_visit network j l) (first-le i j (k + 1) l less (omega arith)) in
              absurd (omega arith)
          | inr more ↦ let past =
              times-le cycles (first_visit network j (l + 1)) (first_visit network i k) (first-le j i (l + 1) k more (omega arith)) in
              absurd (omega arith)
        ]
      ] in
      let begun : first_visit network i l * cycles ≤ number = subst (λ s. first_visit network s l * cycles ≤ number) (sym stream) from_j in
      let ended : number < first_visit network i (l + 1) * cycles =
      subst (λ s. number < first_visit network s (l + 1) * cycles) (sym stream) upto_j in (
        stream,
        elim (cases_order k l) [
          | inl same ↦ same
          | inr differ ↦ elim differ [
            | inl less ↦ let past =
                times-le cycles (first_visit network i (k + 1)) (first_visit network i l) (hops-le-hops i (k + 1) l (omega arith)) in
                absurd (omega arith)
            | inr more ↦ let past =
                times-le cycles (first_visit network i (l + 1)) (first_visit network i k) (hops-le-hops i (l + 1) k (omega arith)) in
                absurd (omega arith)
          ]
        ],
      )

  -- ---- how many there are

  pub shifts-long : (i : ℕ) → length (shifts network i) ≡ turns_of network i * burst_of network i
  unfolding shifts
  shifts-long i =
      let places = range_with_len 0 (burst_of network i) in
      let of_turn : ℕ → List ℕ = λ turn. map (λ place. turn * period_of network i + place * pace network i) places in
      let size = length-range_with_len 0 (burst_of network i) in
      let turns = length-range_with_len 0 (turns_of network i) in
      length_pieces of_turn (burst_of network i)
      (λ turn. length-map places (λ place. turn * period_of network i + place * pace network i) ∙ size)
      (range_with_len 0 (turns_of network i))
      ∙ ap (λ n. n * burst_of network i) turns

  abbrev frames_in : Stream → ℕ
  frames_in stream = stream.turns * stream.burst

  below_is : (n : ℕ) → n ≤ stream_count network → frames_below network n ≡ sum_by frames_in (take n network.streams)
  unfolding turns_of burst_of stream_at
  below_is zero order = below-zero
  below_is (suc n) order =
      let one : n + 1 ≡ suc n = omega arith in
      let before = below_is n (omega arith) in
      let next = below-more n in
      let long = shifts-long n in
      let taken = sum_by_more frames_in network.streams n no_stream order in
      let sum : frames_below network (n + 1) ≡ sum_by frames_in (take (n + 1) network.streams) = omega arith in
      subst (λ k. frames_below network k ≡ sum_by frames_in (take k network.streams)) one sum

  pub frames_few : IsWellFormed network → frames_of network ≤ 65536
  unfolding frame_count
  frames_few formed = grind (arith, below_is, sum_by-take-le)

  pub shifts-few : IsWellFormed network → (i : ℕ) → i < stream_count network → frames_below network (i + 1) ≤ 65536
  shifts-few formed i counted = grind (arith, frames_few, below-le)

  visits-few-below : (bound : ℕ) → ((j : ℕ) → j < stream_count network → hop_count network j ≤ bound) → (i : ℕ) → i ≤ stream_count network
      → visits_below network i ≤ bound * frames_below network i
  visits-few-below bound few zero order =
      let none = visits-zero in
      let zero_frames = below-zero in
      omega arith
  visits-few-below bound few (suc i) order =
      let one : i + 1 ≡ suc i = omega arith in
      let before = visits-few-below bound few i (omega arith) in
      let next = visits-more i in
      let below = below-more i in
      let product : hop_count network i * length (shifts network i) ≤ bound * length (shifts network i) =
      mul-le-mul (few i order) (omega arith) in
      let sum : bound * frames_below network (i + 1) ≡ bound * frames_below network i + bound * length (shifts network i) =
      ap (λ n. bound * n) below ∙ mul-add bound (frames_below network i) (length (shifts network i)) in
      subst (λ n. visits_below network n ≤ bound * frames_below network n) one (omega arith)

  pub visits-few : IsWellFormed network → (i : ℕ) → i ≤ stream_count network → visits_below network i ≤ 4194304
  visits-few formed i order =
      let below = visits-few-below 64 (hops-le network formed) i order in
      let frames = below-le i (stream_count network) order in
      let few = frames_few formed in
      omega arith

  pub visits-fit : IsWellFormed network → (i : ℕ) → i < stream_count network
      → visits_below network i + hop_count network i * length (shifts network i) ≤ 4194304
  visits-fit formed i counted =
      let more = visits-more i in
      let few = visits-few formed (i + 1) (omega arith) in
      omega arith

  pub visits-fit-hop : IsWellFormed network → (i hop : ℕ) → i < stream_count network → hop ≤ hop_count network i
      → visits_below network i + hop * length (shifts network i) ≤ 4194304
  visits-fit-hop formed i hop counted inside =
      let whole = visits-fit formed i counted in
      let product : hop * length (shifts network i) ≤ hop_count network i * length (shifts network i) = mul-le-mul inside (omega arith) in
      omega arith

  -- ---- where they stand

  pub place-below : (i shift : ℕ) → Sends network i shift → place_of network i shift < length (shifts network i)
  unfolding place_of
  place-below i shift (k, inside, is) = grind (arith, fails_before_first, false≢true, eq-eqb)

  pub place-is : (i shift : ℕ) → Sends network i shift → get_or (shifts network i) (place_of network i shift) 0 ≡ shift
  unfolding place_of
  place-is i shift sent = grind (arith, place-below, eqb-true, passes_at_first)

  -- the first place whose shift isn't less
  pub place_found : (i shift point : ℕ) → AllPairs ◌<◌ (shifts network i) → Sends network i shift
      → ((k : ℕ) → k < point → get_or (shifts network i) k 0 < shift)
      → (point < length (shifts network i) → shift ≤ get_or (shifts network i) point 0)
      → (point ≡ place_of network i shift) × (point < length (shifts network i))
  unfolding place_of
  place_found i shift point ascend (j, inside, is) before stops =
      let at : get_or (shifts network i) j 0 ≡ shift = get_or_default (shifts network i) j 0 shift inside ∙ is in
      let not_past : point ≤ j =
      elim (cases_lt j point) [ inl less ↦ let low = before j less in absurd (omega arith) | inr not_less ↦ not_less ] in
      let within : point < length (shifts network i) = omega arith in
      let from = stops within in
      let same : get_or (shifts network i) point 0 ≡ shift = grind arith in (
        sym (position_or_len_is (λ s. s == shift) (shifts network i) point 0 (omega arith)
            (λ k less. ne_eqb _ _ (let low = before k less in λ one. omega arith)) (λ _. eq-eqb _ _ same)),
        within,
      )

  -- ---- a frame's number among those of the cycle

  pub index-below : (i shift : ℕ) → i < stream_count network → Sends network i shift → index_of network i shift < frames_of network
  index-below i shift counted sent =
      let place = place-below i shift sent in
      let next = below-more i in
      let order = below-le (i + 1) (stream_count network) (omega arith) in
      omega arith

  pub one_index : (i shift j other : ℕ) → Sends network i shift → Sends network j other
      → index_of network i shift ≡ index_of network j other
      → (i ≡ j) × (shift ≡ other)
  one_index i shift j other sent other_sent same =
      let place = place-below i shift sent in
      let other_place = place-below j other other_sent in
      let next = below-more i in
      let other_next = below-more j in
      let stream : i ≡ j = grind (arith, cases_order, below-le) in
      let moved : index_of network j shift ≡ index_of network j other = ap (λ k. index_of network k shift) (sym stream) ∙ same in
      let places : place_of network j shift ≡ place_of network j other = omega arith in (
        stream,
        sym (place-is j shift (subst (λ k. Sends network k shift) stream sent))
            ∙ (ap (λ n. get_or (shifts network j) n 0) places ∙ place-is j other other_sent),
      )

  -- ---- a table of them

  pub record AreFirstsUpto (n : ℕ) (firsts : List ℕ) (first : ℕ) : Type 0 where
    pub count : length firsts ≡ n + 1
    pub each : (i : ℕ) → i ≤ n → get_or firsts i 0 ≡ frames_below network i
    pub last : first ≡ frames_below network n

  pub firsts_none : AreFirstsUpto 0 (0 ∷ []) 0
  firsts_none = grind (arith, below-zero)

  pub firsts_more : (n : ℕ) (firsts : List ℕ) (first : ℕ) → AreFirstsUpto n firsts first
      → AreFirstsUpto (n + 1) (firsts ++ (first + length (shifts network n)) ∷ []) (first + length (shifts network n))
  firsts_more n firsts first are =
      let count = are.count in
      let last = are.last in
      let more = below-more n in
      let next = first + length (shifts network n) in
      record {
        count = let long = length-append firsts (next ∷ []) in omega arith;
        each = λ i within. elim (cases_lt i (n + 1)) [
          | inl old ↦ get_or-append firsts (next ∷ []) 0 i (omega arith) ∙ are.each i (omega arith)
          | inr new ↦ grind (arith, get_or-append_seam)
        ];
        last = omega arith;
      }

  pub firsts_all : (n : ℕ) (firsts : List ℕ) (first : ℕ) → n ≡ stream_count network → AreFirstsUpto n firsts first
      → AreFirsts network firsts
  firsts_all n firsts first whole are = record { count = let count = are.count in omega arith; each = λ i within. are.each i (omega arith) }

  -- and few of them
  pub cells-few : IsWellFormed network → (cycles : ℕ) → cycles ≤ 16 → cycles * frames_of network ≤ 1048576
  cells-few formed cycles few = grind (arith, frames_few, mul-le-mul)

  -- ---- the place of a shift, as it is searched for

  pub shifts_parted : (i shift : ℕ) → AllPairs ◌<◌ (shifts network i) → IsPartitionedBy (λ s. ltb s shift) (shifts network i)
  shifts_parted i shift ascend k l d order below passes = grind (arith, ltb-true, lt-ltb)

  pub place_searched : (i shift point : ℕ) → AllPairs ◌<◌ (shifts network i) → Sends network i shift → point ≤ length (shifts network i)
      → IsPartitionPoint (λ s. ltb s shift ≡ true) (λ s. ltb s shift ≡ false) (shifts network i) point
      → (point ≡ place_of network i shift) × (point < length (shifts network i))
  place_searched i shift point ascend sent within parts =
      place_found i shift point ascend sent
      (λ k below. ltb-true (get_or (shifts network i) k 0) shift (parts.0 k 0 (omega arith) below))
      (λ inside. ltb-false (get_or (shifts network i) point 0) shift (parts.1 point 0 (omega arith) inside))

  -- ---- the numbers of a cell

  pub record CellNumbers (cycle first place frames : ℕ) : Type 0 where
    pub all : frames ≡ frames_of network
    pub inside : first + place < frames
    pub few : frames ≤ 65536
    pub before : cycle * frames ≤ 1048576
    pub here : cycle * frames + frames ≤ (cycle + 1) * frames_of network

  pub cell_numbers : IsWellFormed network → (firsts : List ℕ) → AreFirsts network firsts → (cycle i shift place streams : ℕ) → cycle < 16
      → i < stream_count network
      → Sends network i shift → place ≡ place_of network i shift → streams ≡ stream_count network
      → CellNumbers cycle (get_or firsts i 0) place (get_or firsts streams 0)
  cell_numbers formed firsts are cycle i shift place streams early counted sent place_is streams_is =
      grind (arith, index-below, frames_few, mul-le-mul, cycle_below)
