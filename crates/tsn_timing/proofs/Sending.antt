-- The list of a stream's shifts: how it grows, how large they are, and whether a number is one of them.
use Rattle.std.proofs.Common.{◌≡◌, ℕ, ◌+◌, ◌-◌, ◌*◌, ◌/◌, ◌%◌, ◌≤◌, ◌<◌, List, [], ◌∷◌, ◌++◌, map, flat_map, All, refl, sym, ap, ◌∙◌, subst, arith, inl, inr, append-nil}
use Rattle.std.specs.List.{range_with_len}
use Rattle.std.proofs.Math.Nat.{mod-add-div, mul-mod_left, mul-div_cancel}
use Rattle.std.proofs.lemmas.Bool.{cases_lt}
use Rattle.std.proofs.lemmas.Grind.{flat_map-append}
use Rattle.std.proofs.lemmas.List.{get_or_past}
use Rattle.std.proofs.lemmas.List.Elements.{Contains-get_or}
use Rattle.std.proofs.lemmas.List.FromFn.{map-range_with_len_more}
use Rattle.tsn_model.specs.Network.{Network, IsWellFormed, stream_count, no_stream, stream_at, turns_of, period_of, burst_of}
use Rattle.tsn_model.specs.Timing.{pace, shifts, Sends}
use Rattle.tsn_model.proofs.Lists.{range_more}
use Rattle.tsn_model.proofs.Shifts.{parts_of, sent_from}
use Rattle.tsn_model.proofs.Limits.{shift-le}

module _ (network : Network) (i : ℕ) where
  abbrev pub of_place : ℕ → ℕ → ℕ
  of_place turn place = turn * period_of network i + place * pace network i

  -- the shifts of a turn's first frames, and of the first turns
  abbrev pub of_turn : ℕ → ℕ → List ℕ
  of_turn places turn = map (of_place turn) (range_with_len 0 places)

  abbrev pub of_turns : ℕ → List ℕ
  of_turns turns = flat_map (of_turn (burst_of network i)) (range_with_len 0 turns)

  pub turn_more : (turn places : ℕ) → of_turn (places + 1) turn ≡ of_turn places turn ++ of_place turn places ∷ []
  turn_more turn places = map-range_with_len_more (of_place turn) 0 places places (omega arith)

  pub turns_more : (turns : ℕ) → of_turns (turns + 1) ≡ of_turns turns ++ of_turn (burst_of network i) turns
  turns_more turns =
      ap (flat_map (of_turn (burst_of network i))) range ∙ flat_map-append (of_turn (burst_of network i)) (range_with_len 0 turns) (turns ∷ [])
      ∙ ap (λ ys. of_turns turns ++ ys) (append-nil (of_turn (burst_of network i) turns))
    where
      range : range_with_len 0 (turns + 1) ≡ range_with_len 0 turns ++ turns ∷ []
      range = range_more 0 turns ∙ ap (λ n. range_with_len 0 turns ++ n ∷ []) (omega arith)

  pub all_turns : of_turns (turns_of network i) ≡ shifts network i
  unfolding shifts
  all_turns = refl

  -- ---- whether a number is one of them

  pub Sends-counted : (shift : ℕ) → Sends network i shift → i < stream_count network
  unfolding turns_of stream_at
  Sends-counted shift sent = elim (cases_lt i (stream_count network)) [
    | inl below ↦ below
    | inr past ↦
        let parts = parts_of network i shift sent in
        let none : stream_at network i ≡ no_stream = get_or_past network.streams i no_stream past in
        let no_turn : turns_of network i ≡ 0 = ap (λ stream. stream.turns) none in
        absurd (omega arith)
  ]

  pub sent_at : (shift place period gap turns : ℕ) → period ≡ period_of network i → gap ≡ pace network i → turns ≡ turns_of network i
      → place < burst_of network i
      → place * gap ≤ shift → (shift - place * gap) % period ≡ 0 → (shift - place * gap) / period < turns → Sends network i shift
  sent_at shift place period gap turns period_is gap_is turns_is in_burst within whole in_cycle =
      let turn = (shift - place * gap) / period in
      let split = mod-add-div (shift - place * gap) period in
      let begins : turn * period_of network i ≡ turn * period = ap (λ n. turn * n) (sym period_is) in
      let follows : place * pace network i ≡ place * gap = ap (λ n. place * n) (sym gap_is) in
      let same : turn * period_of network i + place * pace network i ≡ shift = omega arith in
      subst (Sends network i) same (sent_from network i turn place (omega arith) in_burst)

  -- a frame in that place of its period
  pub record Placed (shift place : ℕ) : Type 0 where
    pub within : place * pace network i ≤ shift
    pub whole : (shift - place * pace network i) % period_of network i ≡ 0
    pub in_cycle : (shift - place * pace network i) / period_of network i < turns_of network i

  pub placed : (shift : ℕ) → 1 ≤ period_of network i → Sends network i shift → (place : ℕ) × (place < burst_of network i) × Placed shift place
  placed shift some sent =
      let parts = parts_of network i shift sent in
      let begin : shift - parts.place * pace network i ≡ parts.turn * period_of network i = omega arith in
      let turn : (shift - parts.place * pace network i) / period_of network i ≡ parts.turn = ap (λ n. n / period_of network i) begin
      ∙ mul-div_cancel parts.turn (omega arith) in
      let in_cycle = parts.in_cycle in grind (arith, mul-mod_left)

-- the shifts are small
pub shifts-le : (network : Network) (i : ℕ) → IsWellFormed network → i < stream_count network → All (λ shift. shift ≤ 1018504000) (shifts network i)
shifts-le network i formed below = λ k d inside.
    let parts = parts_of network i _ (Contains-get_or (shifts network i) k d inside) in
    let within = shift-le network formed i parts.turn parts.place below parts.in_cycle parts.in_burst in
    omega arith
