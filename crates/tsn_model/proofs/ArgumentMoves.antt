-- What a move shows holds of each valid schedule that fits the view.
use Rattle.std.proofs.Common.{ap, ◌≡◌, ℕ, ◌≤◌, ◌<◌, List, [], ◌∷◌, length, All, Contains, pos, ◌+ℤ◌, ◌-ℤ◌, ◌≤ℤ◌, sym, subst, arith, inl, inr}
use Rattle.std.specs.Prelude.{not}
use Rattle.std.proofs.lemmas.Int.{ints}
use Rattle.std.proofs.lemmas.Bool.{cases_Bool, not_from_false}
use Rattle.std.proofs.lemmas.List.Elements.{All-nil, All-cons, All-head, All-tail, All-contains}
use Rattle.tsn_model.specs.declared.Triple.{Triple}
use Rattle.tsn_model.specs.declared.Side.{Side}
use Rattle.tsn_model.specs.declared.Side.TheVariants.{Left, Right}
use Rattle.tsn_model.specs.declared.Decision.{Decision}
use Rattle.tsn_model.specs.declared.Arc.{Arc}
use Rattle.tsn_model.specs.Network.{Network, IsWellFormed, stream_count}
use Rattle.tsn_model.specs.Timing.{arrival}
use Rattle.tsn_model.specs.Schedule.{IsValid, IsConflict, offset_of}
use Rattle.tsn_model.specs.Arcs.{arc_between, arc_on, arc_of, Holds}
use Rattle.tsn_model.specs.Certificate.{IsFrameOn}
use Rattle.tsn_model.specs.Argument.{Fact, from, until, order, done_from, IsSo, SomeIsSo, turned, opposite, View, low_at, high_at, Fits, learned_all, contradicts, left_open, unit_of, Move, go, turn, apply, arrive, put_last, put_first, pack, round, follow, fill, fill_back, waste, LeadsBy, weight_by, IsOutOfReach, AsksNoMore, clause_at, IsAllowed, shown_by, shown, narrowed, AreAllowed}
use Rattle.tsn_model.proofs.Lists.{Contains-nil, Contains-cons_cases, Contains-filter}
use Rattle.tsn_model.proofs.Routes.{UsesLink-counted}
use Rattle.tsn_model.proofs.Schedules.{arrival-le-flowspan}
use Rattle.tsn_model.proofs.ArgumentViews.{Fits-learned_all, either_way, contradicted}
use Rattle.tsn_model.proofs.ArgumentLoads.{pack_sound, last_sound, first_sound}
use Rattle.tsn_model.proofs.ArgumentRooms.{fill_sound, fill_back_sound, waste_sound}

-- the streams of a conflict's arc are there
pub arc_within : (network : Network) (triple : Triple) (side : Side) → IsConflict network triple
    → ((arc_on network triple side).from < stream_count network) × ((arc_on network triple side).to < stream_count network)
unfolding arc_on arc_between
arc_within network triple Left conflict = (omega arith, omega arith)
arc_within network triple Right conflict = (omega arith, omega arith)

module _ (network : Network) (offsets : List ℕ) where
  abbrev AreSo : List Fact → Type 0
  AreSo facts = All (IsSo network offsets) facts

  one_so : (fact : Fact) → IsSo network offsets fact → AreSo (fact ∷ [])
  one_so fact so = All-cons (IsSo network offsets) fact [] so (All-nil (IsSo network offsets))

  -- of a clause with at most one fact left open, that one holds
  unit_sound : (view : View) (facts : List Fact) (fact : Fact) → Contains facts fact → length facts ≤ 1 → IsSo network offsets fact
      → IsSo network offsets (unit_of view facts)
  unfolding unit_of
  unit_sound view [] fact has few so = absurd (Contains-nil fact has)
  unit_sound view (only ∷ []) fact has few so = elim (Contains-cons_cases only [] fact has) [
    | inl same ↦ subst (IsSo network offsets) (sym same) so
    | inr none ↦ absurd (Contains-nil fact none)
  ]
  unit_sound view (first ∷ second ∷ rest) fact has few so = absurd (omega arith)

module _ (network : Network) (formed : IsWellFormed network) (offsets : List ℕ) (valid : IsValid network offsets) where
  module _ (view : View) (fits : Fits network offsets view) where
    arc_sound : (arc : Arc) → arc.from < stream_count network → arc.to < stream_count network → Holds offsets arc → AreSo network offsets (shown_by view arc)
    unfolding shown_by
    arc_sound arc begins ends met =
        let low = fits.low arc.from begins in
        let high = fits.high arc.to ends in
        All-cons (IsSo network offsets) (from arc.to (low_at view arc.from +ℤ arc.weight)) (until arc.from (high_at view arc.to -ℤ arc.weight) ∷ [])
        (ends, omega (arith, ints, low, met))
        (one_so network offsets (until arc.from (high_at view arc.to -ℤ arc.weight)) (begins, omega (arith, ints, high, met)))

    go_sound : (decision : Decision) → Contains view.orders decision → AreSo network offsets (shown_by view (arc_of network decision))
    unfolding arc_of
    go_sound decision has =
        let so = All-contains (λ d. IsSo network offsets (order d)) view.orders decision fits.orders has in
        let within = arc_within network decision.triple decision.side so.0 in
        arc_sound (arc_of network decision) within.0 within.1 so.1

    turn_sound : (decision : Decision) → IsConflict network decision.triple → IsOutOfReach view (arc_of network (turned decision))
        → IsSo network offsets (order decision)
    unfolding arc_of opposite
    turn_sound decision conflict past = elim (either_way network formed offsets valid (order decision) conflict) [
      | inl so ↦ so
      | inr other ↦
          let met = other.1 in
          let within = arc_within network (turned decision).triple (turned decision).side other.0 in
          let low = fits.low (arc_of network (turned decision)).from within.0 in
          let high = fits.high (arc_of network (turned decision)).to within.1 in
          absurd (omega (arith, ints, met, low, high, past))
    ]

    apply_sound : (clause : List Fact) → SomeIsSo network offsets clause → length (left_open view clause) ≤ 1
        → IsSo network offsets (unit_of view (left_open view clause))
    unfolding left_open
    apply_sound clause some few = elim (cases_Bool (contradicts view some.fact)) [
      | inl against ↦ absurd (contradicted network formed offsets view some.fact fits against some.so)
      | inr kept ↦
          unit_sound network offsets view (left_open view clause) some.fact
          (Contains-filter (λ fact. not (contradicts view fact)) clause some.fact some.has (not_from_false (contradicts view some.fact) kept)) few some.so
    ]

    arrive_sound : (i : ℕ) → i < stream_count network
        → AreSo network offsets (done_from (low_at view i +ℤ pos (arrival network i)) ∷ until i (view.done_high -ℤ pos (arrival network i)) ∷ [])
    arrive_sound i is =
        let low = fits.low i is in
        let done = fits.done_high in
        let arrived = arrival-le-flowspan network offsets i is in
        All-cons (IsSo network offsets) (done_from (low_at view i +ℤ pos (arrival network i)))
        (until i (view.done_high -ℤ pos (arrival network i)) ∷ []) (tt, omega (arith, ints, low, arrived))
        (one_so network offsets (until i (view.done_high -ℤ pos (arrival network i))) (is, omega (arith, ints, done, arrived)))

    follow_sound : (decision weaker : Decision) → Contains view.orders decision → IsConflict network weaker.triple
        → AsksNoMore (arc_of network weaker) (arc_of network decision) → IsSo network offsets (order weaker)
    follow_sound decision weaker has conflict less =
        let so = All-contains (λ d. IsSo network offsets (order d)) view.orders decision fits.orders has in
        let met : (pos (offset_of offsets (arc_of network decision).from) +ℤ (arc_of network decision).weight) ≤ℤ pos
        (offset_of offsets (arc_of network decision).to) = so.1 in
        let begins : offset_of offsets (arc_of network weaker).from ≡ offset_of offsets (arc_of network decision).from = ap (offset_of offsets) less.begins in
        let ends : offset_of offsets (arc_of network weaker).to ≡ offset_of offsets (arc_of network decision).to = ap (offset_of offsets) less.ends in
        let fewer = less.weight in
        (conflict, omega (arith, ints, met, begins, ends, fewer))

    -- offsets rise along decisions of the view by their weights at least
    along : (decisions : List Decision) → All (Contains view.orders) decisions → (i j : ℕ) → LeadsBy network i decisions j
        → (pos (offset_of offsets i) +ℤ weight_by network decisions) ≤ℤ pos (offset_of offsets j)
    unfolding weight_by
    along [] are i j leads = rw leads (omega (arith, ints))
    along (decision ∷ decisions) are i j leads =
        let so = All-contains (λ d. IsSo network offsets (order d)) view.orders decision fits.orders (All-head (Contains view.orders) decision decisions are) in
        let rest = along decisions (All-tail (Contains view.orders) decision decisions are) (arc_of network decision).to j leads.1 in
        let met : (pos (offset_of offsets (arc_of network decision).from) +ℤ (arc_of network decision).weight) ≤ℤ pos
        (offset_of offsets (arc_of network decision).to) = so.1 in
        let begins : (pos (offset_of offsets i) +ℤ (arc_of network decision).weight) ≤ℤ pos
        (offset_of offsets (arc_of network decision).to) = rw leads.0 at met in
        omega (arith, ints, begins, rest)

    -- what the move shows holds
    pub shown_sound : (clauses : List (List Fact)) → All (SomeIsSo network offsets) clauses → (move : Move) → IsAllowed network clauses view move
        → AreSo network offsets (shown network clauses view move)
    unfolding shown
    shown_sound clauses known (go decision) allowed = go_sound decision allowed
    shown_sound clauses known (turn decision) allowed = one_so network offsets (order decision) (turn_sound decision allowed.0 allowed.1)
    shown_sound clauses known (apply k) allowed =
        one_so network offsets (unit_of view (left_open view (clause_at clauses k))) (apply_sound (clause_at clauses k) (known k [] allowed.0) allowed.1)
    shown_sound clauses known (arrive i) allowed = arrive_sound i allowed
    shown_sound clauses known (put_last link j frames some) allowed =
        one_so network offsets (from j.stream _) (
          UsesLink-counted network j.stream link (All-head (IsFrameOn network link) j frames allowed.0.on_link).uses,
          last_sound network formed offsets valid link view fits j frames allowed.0 some allowed.1 allowed.2,
        )
    shown_sound clauses known (put_first link j frames some) allowed =
        one_so network offsets (until j.stream _) (
          UsesLink-counted network j.stream link (All-head (IsFrameOn network link) j frames allowed.0.on_link).uses,
          first_sound network formed offsets valid link view fits j frames allowed.0 some allowed.1 allowed.2,
        )
    shown_sound clauses known (pack link frames) allowed = absurd (pack_sound network formed offsets valid link view fits frames allowed.0 allowed.1)
    shown_sound clauses known (round decisions) allowed =
        let i : ℕ = allowed.1.0 in
        let rises = along decisions allowed.0 i i allowed.1.1 in
        let above = allowed.2 in
        absurd (omega (arith, ints, rises, above))
    shown_sound clauses known (follow decision weaker) allowed =
        one_so network offsets (order weaker) (follow_sound decision weaker allowed.0 allowed.1 allowed.2)
    shown_sound clauses known (fill link j frames before after start) allowed =
        one_so network offsets (from j.stream _) (
          UsesLink-counted network j.stream link (All-head (IsFrameOn network link) j frames allowed.0.on_link).uses,
          fill_sound network formed offsets valid link view fits j frames allowed.0 before after allowed.1 allowed.2 start allowed.3,
        )
    shown_sound clauses known (fill_back link j frames before after finish) allowed =
        one_so network offsets (until j.stream _) (
          UsesLink-counted network j.stream link (All-head (IsFrameOn network link) j frames allowed.0.on_link).uses,
          fill_back_sound network formed offsets valid link view fits j frames allowed.0 before after allowed.1 allowed.2 finish allowed.3,
        )
    shown_sound clauses known (waste link frames fixed) allowed =
        absurd (waste_sound network formed offsets valid link view fits frames allowed.0 fixed allowed.1 allowed.2 allowed.3)

  -- offsets that fit a view fit it after right moves
  pub Fits-narrowed : (clauses : List (List Fact)) → All (SomeIsSo network offsets) clauses → (moves : List Move) (view : View)
      → Fits network offsets view → AreAllowed network clauses view moves
      → Fits network offsets (narrowed network clauses view moves)
  unfolding narrowed
  Fits-narrowed clauses known [] view fits allowed = fits
  Fits-narrowed clauses known (move ∷ moves) view fits allowed =
      Fits-narrowed clauses known moves (learned_all view (shown network clauses view move))
      (Fits-learned_all network offsets view (shown network clauses view move) (shown_sound view fits clauses known move allowed.1) fits) allowed.2
