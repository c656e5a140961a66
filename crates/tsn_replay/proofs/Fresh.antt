-- The items with which a replay begins.
use Rattle.std.proofs.Common.{◌≡◌, ℕ, zero, suc, ◌+◌, ◌-◌, ◌*◌, ◌^◌, ◌≤◌, ◌<◌, if◌then◌else◌, List, ◌++◌, map, flat_map, length, get_or, All, refl, sym, ap, ◌∙◌, subst, arith, inl, inr, append-nil, mul-le-mul, add-mul, mul_comm, mul_assoc, eq-eqb}
use Rattle.std.specs.List.{range_with_len}
use Rattle.std.proofs.lemmas.Bool.{cases_lt, cases_eq, cases_order, ne_eqb}
use Rattle.std.proofs.lemmas.Grind.{flat_map-append}
use Rattle.std.proofs.lemmas.List.{get_or_default, get_or-map, length-append, length-map}
use Rattle.std.proofs.lemmas.List.Elements.{Contains-get_or}
use Rattle.std.proofs.lemmas.List.FromFn.{length-range_with_len}
use Rattle.std.proofs.Math.ListN.{get_or-append}
use Rattle.std.proofs.Math.Seq.{get_or-append_right}
use Rattle.tsn_model.specs.Network.{Network, IsWellFormed, stream_count, route_of, hop_count, from_at, IsSent}
use Rattle.tsn_model.specs.Timing.{shifts, Sends}
use Rattle.tsn_model.specs.Schedule.{offset_of}
use Rattle.tsn_model.specs.Bridge.{Passage, IsReady}
use Rattle.tsn_model.proofs.Lists.{Contains-nil, range_more}
use Rattle.tsn_model.proofs.Hops.{cycle_below}
use Rattle.tsn_replay.specs.declared.queue.Frame.{Frame}
use Rattle.tsn_replay.specs.declared.queue.Stage.TheVariants.{Coming, Queued, Gone}
use Rattle.tsn_replay.specs.Frames.{AreSpaced, visits_below, first_visit}
use Rattle.tsn_replay.specs.Queue.{AreInLine, first_stage, frame_in, passage_of, fresh_frame}
use Rattle.tsn_replay.specs.Feeding.{no_start}
use Rattle.tsn_replay.specs.Progress.{IsTurn, IsFrame, IsTracked, AreFirst, first_turn}
use Rattle.tsn_replay.proofs.Counting.{length_pieces, visits-more, visits-zero, visits-le, times-le}

-- one more piece
pub pieces_next : {X : Type 0} (f : ℕ → List X) (n : ℕ) → flat_map f (range_with_len 0 (n + 1)) ≡ flat_map f (range_with_len 0 n) ++ f n
pieces_next f n = grind (arith, range_more, flat_map-append, append-nil)

-- pieces of one length: what stands where
module _ {X : Type 0} (f : ℕ → List X) (size : ℕ) (long : (k : ℕ) → length (f k) ≡ size) where
  pub pieces_long : (n : ℕ) → length (flat_map f (range_with_len 0 n)) ≡ n * size
  pieces_long n = length_pieces f size long (range_with_len 0 n) ∙ ap (λ m. m * size) (length-range_with_len 0 n)

  pub pieces_at : (n k o : ℕ) (d : X) → k < n → o < size → get_or (flat_map f (range_with_len 0 n)) (k * size + o) d ≡ get_or (f k) o d
  pieces_at zero k o d below inside = absurd (omega arith)
  pieces_at (suc n) k o d below inside =
      let one : n + 1 ≡ suc n = omega arith in
      let whole = pieces_long n in
      let next = pieces_next f n in
      subst (λ m. get_or (flat_map f (range_with_len 0 m)) (k * size + o) d ≡ get_or (f k) o d) one
      (ap (λ xs. get_or xs (k * size + o) d) next ∙ elim (cases_lt k n) [
        | inl earlier ↦
            let product : (k + 1) * size ≤ n * size = mul-le-mul (omega arith) (omega arith) in
            let sum : (k + 1) * size ≡ k * size + 1 * size = add-mul k 1 size in
            get_or-append (flat_map f (range_with_len 0 n)) (f n) d (k * size + o) (omega arith) ∙ pieces_at n k o d earlier inside
        | inr last ↦
            let same : k ≡ n = omega arith in
            let at : k * size ≡ n * size = ap (λ m. m * size) same in
            let there : k * size + o - length (flat_map f (range_with_len 0 n)) ≡ o = omega arith in
            get_or-append_right (flat_map f (range_with_len 0 n)) (f n) (k * size + o) d (omega arith)
            ∙ (ap (λ m. get_or (f n) m d) there ∙ ap (λ m. get_or (f m) o d) (sym same))
      ])

-- which piece a number is in
pub record IsIn (n size number : ℕ) : Type 0 where
  pub piece : ℕ
  pub place : ℕ
  pub below : piece < n
  pub inside : place < size
  pub is : number ≡ piece * size + place

pub in_piece : (n size number : ℕ) → number < n * size → IsIn n size number
in_piece zero size number below = absurd (omega arith)
in_piece (suc n) size number below =
    let sum : (n + 1) * size ≡ n * size + 1 * size = add-mul n 1 size in
    let one : (n + 1) * size ≡ suc n * size = ap (λ m. m * size) (omega arith) in
    elim (cases_lt number (n * size)) [
      | inl earlier ↦
          let at = in_piece n size number earlier in
          record { piece = at.piece; place = at.place; below = (let low = at.below in omega arith); inside = at.inside; is = at.is }
      | inr last ↦ record { piece = n; place = number - n * size; below = omega arith; inside = omega arith; is = omega arith }
    ]

-- the turns of the passages that are ready before any start
pub first_turns : (network : Network) (offsets : List ℕ) (slack : ℕ) (q : Passage) (due : ℕ) → IsReady network offsets no_start q due
    → IsTurn slack due q.stream (first_turn network offsets q)
first_turns network offsets slack q due (inl (first, at)) = record { upto = omega arith; since = omega arith; exact = λ none. refl }
first_turns network offsets slack q due (inr (before, s, next, at, after)) = absurd (Contains-nil _ at)

-- ---- where a frame is at first

module _ (network : Network) (stream hop : ℕ) where
  stage_sent : IsSent network (route_of network stream) hop → first_stage network stream hop ≡ Queued
  stage_sent sent = ap (λ t. if t then Queued else Coming)
      (eq-eqb (from_at network (route_of network stream) hop) (from_at network (route_of network stream) 0) sent)

  stage_not_sent : (IsSent network (route_of network stream) hop → ⊥) → first_stage network stream hop ≡ Coming
  stage_not_sent never =
      ap (λ t. if t then Queued else Coming)
      (ne_eqb (from_at network (route_of network stream) hop) (from_at network (route_of network stream) 0) never)

  pub sent_queued : first_stage network stream hop ≡ Queued → IsSent network (route_of network stream) hop
  sent_queued queued = elim (cases_eq (from_at network (route_of network stream) hop) (from_at network (route_of network stream) 0)) [
    | inl sent ↦ sent
    | inr never ↦ let coming = stage_not_sent never in absurd cc
  ]

  pub coming_not_sent : first_stage network stream hop ≡ Coming → IsSent network (route_of network stream) hop → ⊥
  coming_not_sent coming sent = let queued = stage_sent sent in cc

  pub never_gone : first_stage network stream hop ≡ Gone → ⊥
  never_gone gone = elim (cases_eq (from_at network (route_of network stream) hop) (from_at network (route_of network stream) 0)) [
    | inl sent ↦ let queued = stage_sent sent in cc
    | inr never ↦ let coming = stage_not_sent never in cc
  ]

module _ (network : Network) (offsets : List ℕ) (cycles : ℕ) where
  -- the items of a stream's hop in a cycle and in all cycles, those of a stream, and those of the streams below n
  abbrev fresh_at : ℕ → ℕ → ℕ → ℕ → Frame
  fresh_at stream hop cycle shift =
      fresh_frame (first_stage network stream hop) stream hop cycle (cycle * network.cycle + offset_of offsets stream) shift

  abbrev pub cycle_frames : ℕ → ℕ → ℕ → List Frame
  cycle_frames stream hop cycle =
      map (fresh_frame (first_stage network stream hop) stream hop cycle (cycle * network.cycle + offset_of offsets stream))
      (shifts network stream)

  abbrev pub hop_frames : ℕ → ℕ → List Frame
  hop_frames stream hop = flat_map (cycle_frames stream hop) (range_with_len 0 cycles)

  abbrev pub stream_frames : ℕ → List Frame
  stream_frames stream = flat_map (hop_frames stream) (range_with_len 0 (hop_count network stream))

  abbrev pub frames_upto : ℕ → List Frame
  frames_upto n = flat_map stream_frames (range_with_len 0 n)

  abbrev frames : List Frame
  frames = frames_upto (stream_count network)

  abbrev none : Frame
  none = record { stream = 0; hop = 0; shift = 0; cycle = 0; stage = Coming; ready = 0; rank = 0 }

  abbrev count : ℕ → ℕ
  count stream = length (shifts network stream)

  -- ---- how many they are

  cycle_long : (stream hop cycle : ℕ) → length (cycle_frames stream hop cycle) ≡ count stream
  cycle_long stream hop cycle =
      length-map (shifts network stream)
      (fresh_frame (first_stage network stream hop) stream hop cycle (cycle * network.cycle + offset_of offsets stream))

  hop_long : (stream hop : ℕ) → length (hop_frames stream hop) ≡ count stream * cycles
  hop_long stream hop = pieces_long (cycle_frames stream hop) (count stream) (cycle_long stream hop) cycles ∙ mul_comm cycles (count stream)

  stream_long : (stream : ℕ) → length (stream_frames stream) ≡ hop_count network stream * (count stream * cycles)
  stream_long stream = pieces_long (hop_frames stream) (count stream * cycles) (hop_long stream) (hop_count network stream)

  upto_more : (n : ℕ) → visits_below network (n + 1) * cycles ≡ visits_below network n * cycles + hop_count network n * (count n * cycles)
  upto_more n = ap (λ m. m * cycles) (visits-more network n) ∙ (add-mul (visits_below network n) (hop_count network n * count n) cycles
      ∙ ap (λ m. visits_below network n * cycles + m) (mul_assoc (hop_count network n) (count n) cycles))

  upto_long : (n : ℕ) → length (frames_upto n) ≡ visits_below network n * cycles
  upto_long zero =
      let empty : visits_below network 0 * cycles ≡ 0 * cycles = ap (λ m. m * cycles) (visits-zero network) in
      omega arith
  upto_long (suc n) =
      let one : n + 1 ≡ suc n = omega arith in
      let before = upto_long n in
      let block = stream_long n in
      let pieces = ap length (pieces_next stream_frames n) ∙ length-append (frames_upto n) (stream_frames n) in
      let more = upto_more n in
      let long : length (frames_upto (n + 1)) ≡ visits_below network (n + 1) * cycles = omega arith in
      subst (λ m. length (frames_upto m) ≡ visits_below network m * cycles) one long

  -- ---- what stands where

  -- the number of an item by stream, hop, cycle and place
  abbrev number_of : ℕ → ℕ → ℕ → ℕ → ℕ
  number_of stream hop cycle place = visits_below network stream * cycles + (hop * (count stream * cycles) + (cycle * count stream + place))

  upto_at : (n stream o : ℕ) → stream < n → o < hop_count network stream * (count stream * cycles)
      → get_or (frames_upto n) (visits_below network stream * cycles + o) none ≡ get_or (stream_frames stream) o none
  upto_at zero stream o below inside = absurd (omega arith)
  upto_at (suc n) stream o below inside =
      let one : n + 1 ≡ suc n = omega arith in
      let whole = upto_long n in
      let next = pieces_next stream_frames n in
      subst (λ m. get_or (frames_upto m) (visits_below network stream * cycles + o) none ≡ get_or (stream_frames stream) o none) one
      (ap (λ xs. get_or xs (visits_below network stream * cycles + o) none) next ∙ elim (cases_lt stream n) [
        | inl earlier ↦
            let more = upto_more stream in
            let order = times-le network cycles (visits_below network (stream + 1)) (visits_below network n)
            (visits-le network (stream + 1) n (omega arith)) in
            get_or-append (frames_upto n) (stream_frames n) none (visits_below network stream * cycles + o) (omega arith)
            ∙ upto_at n stream o earlier inside
        | inr last ↦
            let same : stream ≡ n = omega arith in
            let at : visits_below network stream * cycles ≡ visits_below network n * cycles =
            ap (λ m. visits_below network m * cycles) same in
            let there : visits_below network stream * cycles + o - length (frames_upto n) ≡ o = omega arith in
            get_or-append_right (frames_upto n) (stream_frames n) (visits_below network stream * cycles + o) none (omega arith)
            ∙ (ap (λ m. get_or (stream_frames n) m none) there ∙ ap (λ m. get_or (stream_frames m) o none) (sym same))
      ])

  -- a place in a hop's items is one in the stream's
  hop_inside : (stream cycle place : ℕ) → cycle < cycles → place < count stream → cycle * count stream + place < count stream * cycles
  hop_inside stream cycle place early inside =
      let product : (cycle + 1) * count stream ≤ cycles * count stream = mul-le-mul (omega arith) (omega arith) in
      let sum : (cycle + 1) * count stream ≡ cycle * count stream + 1 * count stream = add-mul cycle 1 (count stream) in
      let turned : cycles * count stream ≡ count stream * cycles = mul_comm cycles (count stream) in
      omega arith

  stream_inside : (stream hop o : ℕ) → hop < hop_count network stream → o < count stream * cycles
      → hop * (count stream * cycles) + o < hop_count network stream * (count stream * cycles)
  stream_inside stream hop o below inside =
      let product : (hop + 1) * (count stream * cycles) ≤ hop_count network stream * (count stream * cycles) =
      mul-le-mul (omega arith) (omega arith) in
      let sum : (hop + 1) * (count stream * cycles) ≡ hop * (count stream * cycles) + 1 * (count stream * cycles) =
      add-mul hop 1 (count stream * cycles) in
      omega arith

  record Stands (stream hop cycle place : ℕ) : Type 0 where
    within : number_of stream hop cycle place < length frames
    is : frame_in frames (number_of stream hop cycle place) ≡ fresh_at stream hop cycle (get_or (shifts network stream) place 0)

  stands : (stream hop cycle place : ℕ) → stream < stream_count network → hop < hop_count network stream
      → cycle < cycles → place < count stream → Stands stream hop cycle place
  unfolding frame_in
  stands stream hop cycle place counted below early inside =
      let in_hop = hop_inside stream cycle place early inside in
      let in_stream = stream_inside stream hop (cycle * count stream + place) below in_hop in
      let more = upto_more stream in
      let order = times-le network cycles (visits_below network (stream + 1)) (visits_below network (stream_count network))
      (visits-le network (stream + 1) (stream_count network) (omega arith)) in
      let long = upto_long (stream_count network) in
      record {
        within = omega arith;
        is = upto_at (stream_count network) stream (hop * (count stream * cycles) + (cycle * count stream + place)) counted in_stream
            ∙ (pieces_at (hop_frames stream) (count stream * cycles) (hop_long stream) (hop_count network stream) hop
            (cycle * count stream + place) none below in_hop
            ∙ (pieces_at (cycle_frames stream hop) (count stream) (cycle_long stream hop) cycles cycle place none early inside
            ∙ get_or-map (fresh_frame (first_stage network stream hop) stream hop cycle (cycle * network.cycle + offset_of offsets stream))
            (shifts network stream) place 0 none inside));
      }

  -- each number is one of these
  record IsAt (number : ℕ) : Type 0 where
    stream : ℕ
    hop : ℕ
    cycle : ℕ
    place : ℕ
    counted : stream < stream_count network
    below : hop < hop_count network stream
    early : cycle < cycles
    inside : place < count stream
    number_is : number ≡ number_of stream hop cycle place

  record IsOfStream (n number : ℕ) : Type 0 where
    of : ℕ
    rest : ℕ
    low : of < n
    inner : rest < hop_count network of * (count of * cycles)
    sum : number ≡ visits_below network of * cycles + rest

  of_stream : (n number : ℕ) → number < visits_below network n * cycles → IsOfStream n number
  of_stream zero number below =
      let empty : visits_below network 0 * cycles ≡ 0 * cycles = ap (λ m. m * cycles) (visits-zero network) in
      absurd (omega arith)
  of_stream (suc n) number below =
      let more = upto_more n in
      let one : visits_below network (n + 1) * cycles ≡ visits_below network (suc n) * cycles =
      ap (λ m. visits_below network m * cycles) (omega arith) in
      elim (cases_lt number (visits_below network n * cycles)) [
        | inl earlier ↦
            let at = of_stream n number earlier in
            record { of = at.of; rest = at.rest; low = (let less = at.low in omega arith); inner = at.inner; sum = at.sum }
        | inr last ↦ record {
          of = n;
          rest = number - visits_below network n * cycles;
          low = omega arith;
          inner = omega arith;
          sum = omega arith;
        }
      ]

  located : (number : ℕ) → number < length frames → IsAt number
  located number below =
      let at = of_stream (stream_count network) number (let long = upto_long (stream_count network) in omega arith) in
      let on = in_piece (hop_count network at.of) (count at.of * cycles) at.rest at.inner in
      let during = in_piece cycles (count at.of) on.place
      (let inner = on.inside in let turned : cycles * count at.of ≡ count at.of * cycles = mul_comm cycles (count at.of) in omega arith) in
      record {
        stream = at.of;
        hop = on.piece;
        cycle = during.piece;
        place = during.place;
        counted = at.low;
        below = on.below;
        early = during.below;
        inside = during.inside;
        number_is = (let sum = at.sum in let rest = on.is in let last = during.is in omega arith);
      }

  abbrev frame_of : (number : ℕ) → IsAt number → Frame
  frame_of number at = fresh_at at.stream at.hop at.cycle (get_or (shifts network at.stream) at.place 0)

  frame_is : (number : ℕ) (at : IsAt number) → frame_in frames number ≡ frame_of number at
  frame_is number at = ap (frame_in frames) at.number_is
      ∙ (stands at.stream at.hop at.cycle at.place at.counted at.below at.early at.inside).is

  sends : (number : ℕ) (at : IsAt number) → Sends network at.stream (get_or (shifts network at.stream) at.place 0)
  sends number at = Contains-get_or (shifts network at.stream) at.place 0 at.inside

  -- what holds of each item as it is made holds of each item
  each_item : (P : ℕ → Frame → Type 0) → ((number : ℕ) (at : IsAt number) → P number (frame_of number at))
      → (number : ℕ) → number < length frames → P number (frame_in frames number)
  each_item P holds number below = let at = located number below in subst (P number) (sym (frame_is number at)) (holds number at)

  module _ (spaced : AreSpaced network) where
    -- a shift stands once among those of its stream
    place_once : (stream k l : ℕ) → stream < stream_count network → k < count stream → l < count stream
        → get_or (shifts network stream) k 0 ≡ get_or (shifts network stream) l 0 → k ≡ l
    place_once stream k l counted k_below l_below same = elim (cases_order k l) [
      | inl is ↦ is
      | inr differ ↦ elim differ [
        | inl less ↦ let order = spaced.ascend stream counted k l 0 less l_below in absurd (omega arith)
        | inr more ↦ let order = spaced.ascend stream counted l k 0 more k_below in absurd (omega arith)
      ]
    ]

    shift_within : (number : ℕ) (at : IsAt number) → get_or (shifts network at.stream) at.place 0 < network.cycle
    shift_within number at = spaced.within at.stream (get_or (shifts network at.stream) at.place 0) at.counted (sends number at)

    -- of two items of a hop the later one is ready later
    later : (a b : ℕ) (at : IsAt a) (bt : IsAt b) → a < b → at.stream ≡ bt.stream → at.hop ≡ bt.hop
        → (frame_of a at).ready < (frame_of b bt).ready
    later a b at bt less stream hop =
        let a_is = at.number_is in
        let b_is : b ≡ number_of at.stream at.hop bt.cycle bt.place =
        bt.number_is ∙ (λ i. number_of (sym stream i) (sym hop i) bt.cycle bt.place) in
        let order : at.cycle * count at.stream + at.place < bt.cycle * count at.stream + bt.place = omega arith in
        let b_inside : bt.place < count at.stream = subst (λ i. bt.place < count i) (sym stream) bt.inside in
        let offset : offset_of offsets at.stream ≡ offset_of offsets bt.stream = ap (offset_of offsets) stream in
        let a_shift = shift_within a at in
        elim (cases_order at.cycle bt.cycle) [
          | inl same ↦
              let product : at.cycle * count at.stream ≡ bt.cycle * count at.stream = ap (λ n. n * count at.stream) same in
              let begun : at.cycle * network.cycle ≡ bt.cycle * network.cycle = ap (λ n. n * network.cycle) same in
              let shift = spaced.ascend at.stream at.counted at.place bt.place 0 (omega arith) b_inside in
              let here : get_or (shifts network at.stream) bt.place 0 ≡ get_or (shifts network bt.stream) bt.place 0 =
              ap (λ i. get_or (shifts network i) bt.place 0) stream in
              omega arith
          | inr differ ↦ elim differ [
            | inl sooner ↦ let gap = cycle_below at.cycle bt.cycle network.cycle sooner in omega arith
            | inr after ↦
                let product : (bt.cycle + 1) * count at.stream ≤ at.cycle * count at.stream = mul-le-mul (omega arith) (omega arith) in
                let sum : (bt.cycle + 1) * count at.stream ≡ bt.cycle * count at.stream + 1 * count at.stream =
                add-mul bt.cycle 1 (count at.stream) in
                absurd (omega arith)
          ]
        ]

    is_frame : (slack number : ℕ) (at : IsAt number)
        → IsFrame network (record { offsets = offsets; slack = slack; turn = first_turn network offsets }) cycles no_start
        (frame_of number at)
    unfolding passage_of
    is_frame slack number at = record {
      passage = record { stream = at.counted; sent = sends number at; cycle = at.early; hop = at.below };
      gone = λ gone. absurd (never_gone network at.stream at.hop gone);
      unstarted = λ not_gone s begun. Contains-nil _ begun;
      ready = λ queued. ((frame_of number at).ready, inl (sent_queued network at.stream at.hop queued, refl));
      turn = λ queued. refl;
      coming = λ coming due is_ready. not_ready coming due is_ready;
    } where
      not_ready : first_stage network at.stream at.hop ≡ Coming → (due : ℕ)
          → IsReady network offsets no_start (passage_of (frame_of number at)) due → ⊥
      not_ready coming due (inl (sent, when)) = coming_not_sent network at.stream at.hop coming sent
      not_ready coming due (inr (before, s, next, begun, after)) = Contains-nil _ begun

    one_number : (a b : ℕ) (at : IsAt a) (bt : IsAt b) → passage_of (frame_of a at) ≡ passage_of (frame_of b bt) → a ≡ b
    unfolding passage_of
    one_number a b at bt same =
        let stream : at.stream ≡ bt.stream = ap (λ (x : Passage). x.stream) same in
        let hop : at.hop ≡ bt.hop = ap (λ (x : Passage). x.hop) same in
        let cycle : at.cycle ≡ bt.cycle = ap (λ (x : Passage). x.cycle) same in
        let shift : get_or (shifts network at.stream) at.place 0 ≡ get_or (shifts network bt.stream) bt.place 0 =
        ap (λ (x : Passage). x.shift) same in
        let place = place_once bt.stream at.place bt.place bt.counted (subst (λ i. at.place < count i) stream at.inside) bt.inside
        (ap (λ i. get_or (shifts network i) at.place 0) (sym stream) ∙ shift) in
        at.number_is ∙ ((λ i. number_of (stream i) (hop i) (cycle i) (place i)) ∙ sym bt.number_is)

    pub fresh_tracked : (slack : ℕ)
        → IsTracked network (record { offsets = offsets; slack = slack; turn = first_turn network offsets }) cycles no_start frames
    unfolding passage_of
    fresh_tracked slack = record {
      each = each_item (λ number frame.
          IsFrame network (record { offsets = offsets; slack = slack; turn = first_turn network offsets }) cycles no_start frame)
          (is_frame slack);
      complete = λ q passage.
          let sent = passage.sent in
          let at = stands q.stream q.hop q.cycle sent.0 passage.stream passage.hop passage.cycle sent.1 in
          let shift : get_or (shifts network q.stream) sent.0 0 ≡ q.shift =
          get_or_default (shifts network q.stream) sent.0 0 q.shift sent.1 ∙ sent.2 in
          (number_of q.stream q.hop q.cycle sent.0, at.within, ap passage_of at.is ∙ ap (λ n. record q { shift = n }) shift);
      distinct = λ a b a_below b_below same.
          let at = located a a_below in
          let bt = located b b_below in
          one_number a b at bt (ap passage_of (sym (frame_is a at)) ∙ (same ∙ ap passage_of (frame_is b bt)));
    }

    pub fresh_first : AreFirst network offsets 0 frames
    fresh_first = record {
      stages = each_item (λ number frame. frame.stage ≡ first_stage network frame.stream frame.hop) (λ number at. refl);
      planned = λ k since below.
          each_item (λ number frame. frame.ready ≡ frame.cycle * network.cycle + offset_of offsets frame.stream + frame.shift)
          (λ number at. refl) k below;
    }

    -- where the items of a hop stand
    placed : (number : ℕ) (at : IsAt number) → (first_visit network at.stream at.hop * cycles ≤ number)
        × (number < first_visit network at.stream (at.hop + 1) * cycles)
    placed number at =
        let is = at.number_is in
        let inner = hop_inside at.stream at.cycle at.place at.early at.inside in
        let first : first_visit network at.stream at.hop * cycles ≡ visits_below network
        at.stream * cycles + at.hop * (count at.stream * cycles) =
        add-mul (visits_below network at.stream) (at.hop * count at.stream) cycles
        ∙ ap (λ n. visits_below network at.stream * cycles + n) (mul_assoc at.hop (count at.stream) cycles) in
        let next : first_visit network at.stream
        (at.hop + 1) * cycles ≡ visits_below network at.stream * cycles + (at.hop + 1) * (count at.stream * cycles) =
        add-mul (visits_below network at.stream) ((at.hop + 1) * count at.stream) cycles
        ∙ ap (λ n. visits_below network at.stream * cycles + n) (mul_assoc (at.hop + 1) (count at.stream) cycles) in
        let sum : (at.hop + 1) * (count at.stream * cycles) ≡ at.hop * (count at.stream * cycles) + 1 * (count at.stream * cycles) =
        add-mul at.hop 1 (count at.stream * cycles) in
        (omega arith, omega arith)

    -- a frame's item on a later hop
    further : (number more : ℕ) (at : IsAt number) → at.hop + more < hop_count network at.stream
        → (number + more * (count at.stream * cycles) < length frames)
        × (passage_of (frame_in frames (number + more * (count at.stream * cycles))) ≡ record (passage_of (frame_of number at))
        { hop = at.hop + more })
    unfolding passage_of
    further number more at inside =
        let there = stands at.stream (at.hop + more) at.cycle at.place at.counted inside at.early at.inside in
        let is = at.number_is in
        let sum : (at.hop + more) * (count at.stream * cycles) ≡ at.hop * (count at.stream * cycles) + more * (count at.stream * cycles) =
        add-mul at.hop more (count at.stream * cycles) in
        let same : number + more * (count at.stream * cycles) ≡ number_of at.stream (at.hop + more) at.cycle at.place = omega arith in
        (subst (λ n. n < length frames) (sym same) there.within, ap (λ n. passage_of (frame_in frames n)) same ∙ ap passage_of there.is)

    pub fresh_line : AreInLine network cycles frames
    fresh_line = record {
      count = upto_long (stream_count network);
      hop = each_item (λ number frame. frame.hop < hop_count network frame.stream) (λ number at. at.below);
      place = each_item (λ number frame. (first_visit network frame.stream frame.hop * cycles ≤ number)
          × (number < first_visit network frame.stream (frame.hop + 1) * cycles)) placed;
      onward = λ number more below. each_item
          (λ n frame. frame.hop + more < hop_count network frame.stream → (n + more * (count frame.stream * cycles) < length frames)
          × (passage_of (frame_in frames (n + more * (count frame.stream * cycles))) ≡ record (passage_of frame)
          { hop = frame.hop + more }))
          (λ n at. further n more at) number below;
      gone = λ a b less below one gone.
          absurd (each_item (λ n frame. frame.stage ≡ Gone → ⊥) (λ n at. never_gone network at.stream at.hop) b below gone);
      coming = λ a b less below one coming.
          let stage : (n : ℕ) → n < length frames
          → (frame_in frames n).stage ≡ first_stage network (frame_in frames n).stream (frame_in frames n).hop = fresh_first.stages in
          stage b below ∙ ((λ i. first_stage network (sym one.0 i) (sym one.1 i)) ∙ (sym (stage a (omega arith)) ∙ coming));
      readies = λ a b less below one a_queued b_queued.
          let at = located a (omega arith) in
          let bt = located b below in
          let a_is = frame_is a at in
          let b_is = frame_is b bt in
          let stream : at.stream ≡ bt.stream = sym (ap (λ (f : Frame). f.stream) a_is) ∙ (one.0 ∙ ap (λ (f : Frame). f.stream) b_is) in
          let hop : at.hop ≡ bt.hop = sym (ap (λ (f : Frame). f.hop) a_is) ∙ (one.1 ∙ ap (λ (f : Frame). f.hop) b_is) in
          subst (λ (f : Frame). f.ready < (frame_in frames b).ready) (sym a_is)
          (subst (λ (f : Frame). (frame_of a at).ready < f.ready) (sym b_is) (later a b at bt less stream hop));
    }

    pub fresh_early : IsWellFormed network → All (λ offset. offset ≤ network.cycle) offsets
        → length offsets ≡ stream_count network → cycles ≤ 16
        → All (λ (frame : Frame). frame.ready ≤ 2 ^ 50) frames
    unfolding frame_in
    fresh_early formed small long few k d below =
        let short = formed.short_cycle in
        let bound = each_item (λ n frame. frame.ready ≤ 2 ^ 50) (λ n at.
        let early = at.early in
        let counted = at.counted in
        let offset = small at.stream 0 (omega arith) in
        let shift = shift_within n at in
        let begin : at.cycle * network.cycle ≤ 16 * 1000000000 = mul-le-mul {n₂ = 16} (omega arith) short in
        omega arith) k below in
        subst (λ (f : Frame). f.ready ≤ 2 ^ 50) (get_or_default frames k none d below) bound
