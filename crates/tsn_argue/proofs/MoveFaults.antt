-- What is wrong with a move, which may not be made then; and that no other thing is wrong with it.
use Rattle.std.proofs.Common.{◌≡◌, ℕ, zero, suc, List, [], ◌∷◌, ◌++◌, length, take, Some, Bool, All, Contains, ℤ, pos, ◌≤ℤ◌, ◌<ℤ◌, inl, inr, refl, sym, ap, ◌∙◌, arith}
use Rattle.std.proofs.lemmas.Bool.{cases_lt}
use Rattle.std.proofs.lemmas.List.Elements.{All-head, All-tail, All-take, All-push}
use Rattle.std.proofs.lemmas.Int.{ints}
use Rattle.std.specs.Prelude.{slice_get}
use Rattle.tsn_model.specs.Network.{Network}
use Rattle.tsn_model.specs.declared.Frame.{Frame}
use Rattle.tsn_model.specs.declared.Arc.{Arc}
use Rattle.tsn_model.specs.declared.Decision.{Decision}
use Rattle.tsn_model.specs.Arcs.{arc_of}
use Rattle.tsn_model.specs.Timing.{separation}
use Rattle.tsn_model.proofs.Routes.{UsesLink-counted}
use Rattle.tsn_model.specs.Certificate.{IsFrameOn}
use Rattle.tsn_model.specs.Argument.{go, turn, apply, put_last, put_first, pack, round, follow, fill, fill_back, waste, Fact, View, Move, natural, Edge, outermost, beside, IsEdge, AreInTurn, left_edge, right_edge, end_at, first_head, AreOn, AreSome, LeadsBy, AsksNoMore, IsAllowed}
use Rattle.tsn_argue.specs.First.{IsFirstWrong}
use Rattle.tsn_argue.specs.Faults.{IsOffLink, IsWrongFrame, AreWrongOn, AreAmong, IsWrongChoice, AreWrongAmong, IsWrongPlacing, LeadOn, GoRound, IsWrongOrder, IsUnclosed, AsksMore, IsWrongEdge, AreShut, IsFirstOpen, HasOpen, IsWrongFilling, IsWrongTurn, IsWrongMove}
use Rattle.tsn_check.specs.declared.wrong.Wrong.{Wrong}
use Rattle.tsn_check.specs.declared.wrong.Wrong.TheVariants.{Open}
use Rattle.tsn_argue.proofs.FirstLemmas.{first_wrong_refutes, one_first_wrong, all_there, none_before}
use Rattle.std.proofs.lemmas.Option.{slice_get_within}

-- ---- frames

off_refutes : (network : Network) (link : ℕ) (frame : Frame) (fault : Wrong) → IsOffLink network link frame fault → IsFrameOn network link frame → ⊥
off_refutes network link frame fault (inl none) on =
    let past = none.1 in
    let there = UsesLink-counted network frame.stream link on.uses in
    omega (arith, past, there)
off_refutes network link frame fault (inr (inl unsent)) on = unsent.2 on.sent
off_refutes network link frame fault (inr (inr unused)) on = unused.3 on.uses

pub on_clash : (network : Network) (link : ℕ) (xs : List Frame) (k : ℕ) (x : Frame) (fault : Wrong) → AreOn network link xs → slice_get xs k ≡ Some x
    → IsWrongFrame network link (take k xs) x fault → ⊥
on_clash network link xs k x fault are at (inl off) = off_refutes network link x fault off (all_there (IsFrameOn network link) xs k x are.on_link at)
on_clash network link xs k x fault are at (inr again) = none_before xs k x are.different at again.2

pub among_clash : (frames xs : List Frame) (k : ℕ) (x : Frame) (fault : Wrong) → AreAmong frames xs → slice_get xs k ≡ Some x
    → IsWrongChoice frames (take k xs) x fault → ⊥
among_clash frames xs k x fault are at (inl out) = out.1 (all_there (Contains frames) xs k x are.among at)
among_clash frames xs k x fault are at (inr again) = none_before xs k x are.different at again.2

on_refuted : (network : Network) (link : ℕ) (frames : List Frame) (fault : Wrong) → AreWrongOn network link frames fault → AreOn network link frames → ⊥
on_refuted network link frames fault wrong are =
    first_wrong_refutes (AreOn network link) (IsWrongFrame network link) (on_clash network link) frames fault wrong are

some_refuted : (frames some : List Frame) (fault : Wrong) → AreWrongAmong frames some fault → AreSome frames some → ⊥
some_refuted frames some fault (inl none) are =
    let empty : length some ≡ 0 = ap length none.1 in
    let one = are.one in
    omega (arith, empty, one)
some_refuted frames some fault (inr wrong) are =
    first_wrong_refutes (AreAmong frames) (IsWrongChoice frames) (among_clash frames) some fault wrong (record {
      different =
          are.different;
      among = are.among;
    })

-- ---- moves

pub crossed : (a b : ℤ) → a ≤ℤ b → b <ℤ a → ⊥
crossed a b low high = grind (arith, ints)

placing_refuted : (network : Network) (link : ℕ) (frame : Frame) (frames some : List Frame) (bound end : ℤ) (of_others : Bool) (fault : Wrong)
    → IsWrongPlacing network link frame frames some bound end of_others fault
    → AreOn network link (frame ∷ frames) → AreSome frames some → end <ℤ bound → ⊥
placing_refuted network link frame frames some bound end of_others fault (inl on) are chosen past = on_refuted network link (frame ∷ frames) fault on are
placing_refuted network link frame frames some bound end of_others fault (inr (inl choice)) are chosen past = some_refuted frames some fault choice.1 chosen
placing_refuted network link frame frames some bound end of_others fault (inr (inr room)) are chosen past = crossed bound end room.2.1 past

module _ (network : Network) where
  leads_there : (i j : ℕ) (xs : List Decision) (k : ℕ) (x : Decision) → LeadsBy network i xs j → slice_get xs k ≡ Some x
      → (m : ℕ) × LeadsBy network i (take k xs ++ x ∷ []) m
  leads_there i j [] zero x leads at = cc
  leads_there i j [] (suc k) x leads at = cc
  leads_there i j (first ∷ xs) zero x leads at =
      let is : first ≡ x = cc in
      ((arc_of network x).to, (ap (λ d. (arc_of network d).from) (sym is) ∙ leads.0, refl))
  leads_there i j (first ∷ xs) (suc k) x leads at =
      let more = leads_there (arc_of network first).to j xs k x leads.1 at in
      (more.0, (leads.0, more.1))

  order_clash : (view : View) (xs : List Decision) (k : ℕ) (x : Decision) (fault : Wrong) → LeadOn network view xs → slice_get xs k ≡ Some x
      → IsWrongOrder network view (take k xs) x fault → ⊥
  order_clash view xs k x fault lead at (inl none) = none.1 (all_there (Contains view.orders) xs k x lead.0 at)
  order_clash view xs k x fault lead at (inr apart) =
      let there = leads_there lead.1.0 lead.1.1 xs k x lead.1.2 at in
      apart.2 (
        All-push (Contains view.orders) (take k xs) x (All-take (Contains view.orders) k xs lead.0) (all_there (Contains view.orders) xs k x lead.0 at),
        (lead.1.0, there.0, there.1),
      )

  unclosed_refuted : (view : View) (decisions : List Decision) (fault : Wrong) → IsUnclosed network view decisions fault → GoRound network view decisions → ⊥
  unclosed_refuted view decisions fault (inl first) goes =
      first_wrong_refutes (LeadOn network view) (IsWrongOrder network view) (order_clash view) decisions fault first
      (goes.0, (goes.1.0, goes.1.0, goes.1.1))
  unclosed_refuted view decisions fault (inr apart) goes = apart.2 goes

asks_refuted : (decision : Decision) (arc known : Arc) (fault : Wrong) → AsksMore decision arc known fault → AsksNoMore arc known → ⊥
asks_refuted decision arc known fault (inl other) less = other.1 (less.begins, less.ends)
asks_refuted decision arc known fault (inr more) less = crossed arc.weight known.weight less.weight more.2

not_above : (a : ℤ) → a ≤ℤ pos 0 → pos 0 <ℤ a → ⊥
not_above a low high = grind (arith, ints)

-- ---- rooms

edge_refuted : (view : View) (frames : List Frame) (edge : Edge) (fault : Wrong) → IsWrongEdge view frames edge fault → IsEdge view frames edge → ⊥
edge_refuted view frames outermost fault wrong is = wrong
edge_refuted view frames (beside frame) fault (inl none) is = none.1 is.0
edge_refuted view frames (beside frame) fault (inr movable) is = movable.2 is.1

filling_refuted : (network : Network) (view : View) (link : ℕ) (frame : Frame) (frames : List Frame) (before after : Edge) (least most : ℕ) (fault : Wrong)
    → IsWrongFilling network view link frame frames before after least most fault
    → AreOn network link (frame ∷ frames) → IsEdge view frames before → IsEdge view frames after
    → AreShut network view link (frame ∷ frames) (left_edge network view link (frame ∷ frames) before) (right_edge network view link (frame ∷ frames) after)
    (separation network frame.stream link) least most → ⊥
filling_refuted network view link frame frames before after least most fault (inl on) are first second shut = on_refuted network link (frame ∷ frames) fault
    on are
filling_refuted network view link frame frames before after least most fault (inr (inl edge)) are first second shut = edge_refuted view frames before fault
    edge.1 first
filling_refuted network view link frame frames before after least most fault (inr (inr (inl edge))) are first second shut = edge_refuted view frames after
    fault edge.2 second
filling_refuted network view link frame frames before after least most fault (inr (inr (inr place))) are first second shut =
    let there = place.3.2 in
    there.opens (shut place.3.0 there.after there.within)

turn_refuted : (network : Network) (view : View) (link : ℕ) (frames : List Frame) (low : ℕ) (fixed : List Frame) (fault : Wrong)
    → IsWrongTurn network view link frames low fixed fault → All (Contains frames) fixed → AreInTurn network view link low fixed → ⊥
turn_refuted network view link frames low [] fault wrong among ordered = wrong
turn_refuted network view link frames low (frame ∷ fixed) fault (inl none) among ordered = none.1 (All-head (Contains frames) frame fixed among)
turn_refuted network view link frames low (frame ∷ fixed) fault (inr (inl movable)) among ordered = movable.2 ordered.0
turn_refuted network view link frames low (frame ∷ fixed) fault (inr (inr (inl early))) among ordered =
    let begins = early.3 in
    let later = ordered.1 in
    omega (arith, begins, later)
turn_refuted network view link frames low (frame ∷ fixed) fault (inr (inr (inr rest))) among ordered =
    turn_refuted network view link frames (natural (end_at network view link frame)) fixed fault rest.3 (All-tail (Contains frames) frame fixed among) ordered.2

pub wrong_move : (network : Network) (clauses : List (List Fact)) (view : View) (move : Move) (fault : Wrong)
    → IsWrongMove network clauses view move fault → IsAllowed network clauses view move → ⊥
wrong_move network clauses view (go decision) fault wrong is = wrong.1 is
wrong_move network clauses view (turn decision) fault (inl wrong) is = wrong.1 is.0
wrong_move network clauses view (turn decision) fault (inr wrong) is = crossed _ _ wrong.1.1 is.1
wrong_move network clauses view (apply k) fault (inl wrong) is = let past = wrong.1 in let below = is.0 in omega (arith, past, below)
wrong_move network clauses view (apply k) fault (inr wrong) is = let more = wrong.2 in let few = is.1 in omega (arith, more, few)
wrong_move network clauses view (put_last link frame frames some) fault wrong is =
    placing_refuted network link frame frames some _ _ _ fault wrong is.0 is.1 is.2
wrong_move network clauses view (put_first link frame frames some) fault wrong is =
    placing_refuted network link frame frames some _ _ _ fault wrong is.0 is.1 is.2
wrong_move network clauses view (pack link frames) fault (inl wrong) is = on_refuted network link frames fault wrong is.0
wrong_move network clauses view (pack link frames) fault (inr wrong) is = crossed _ _ wrong.1.1 is.1
wrong_move network clauses view (round decisions) fault (inl wrong) is = unclosed_refuted network view decisions fault wrong (is.0, is.1)
wrong_move network clauses view (round decisions) fault (inr wrong) is = not_above _ wrong.2 is.2
wrong_move network clauses view (follow decision weaker) fault (inl wrong) is = wrong.1 is.0
wrong_move network clauses view (follow decision weaker) fault (inr (inl wrong)) is = wrong.2 is.1
wrong_move network clauses view (follow decision weaker) fault (inr (inr wrong)) is = asks_refuted weaker _ _ fault wrong.2 is.2
wrong_move network clauses view (fill link frame frames before after start) fault wrong is =
    filling_refuted network view link frame frames before after _ _ fault wrong is.0 is.1 is.2 is.3
wrong_move network clauses view (fill_back link frame frames before after finish) fault wrong is =
    filling_refuted network view link frame frames before after _ _ fault wrong is.0 is.1 is.2 (λ x low high. is.3 x (omega arith) (omega arith))
wrong_move network clauses view (waste link frames fixed) fault (inl wrong) is = on_refuted network link frames fault wrong is.0
wrong_move network clauses view (waste link frames fixed) fault (inr (inl wrong)) is =
    turn_refuted network view link frames (natural (first_head network view link frames)) fixed fault wrong.1 is.1 is.2
wrong_move network clauses view (waste link frames fixed) fault (inr (inr wrong)) is = let few = wrong.3.1 in let past = is.3 in omega (arith, few, past)
wrong_move network clauses view _ fault wrong is = let past = wrong.1 in omega (arith, past, is)

-- ---- of two faults

one_off : (network : Network) (link : ℕ) (frame : Frame) (a b : Wrong) → IsOffLink network link frame a → IsOffLink network link frame b → a ≡ b
one_off network link frame a b (inl one) (inl two) = one.0 ∙ sym two.0
one_off network link frame a b (inl one) (inr (inl two)) = let past = one.1 in let below = two.1 in absurd (omega (arith, past, below))
one_off network link frame a b (inl one) (inr (inr two)) = let past = one.1 in let below = two.1 in absurd (omega (arith, past, below))
one_off network link frame a b (inr (inl one)) (inl two) = let past = two.1 in let below = one.1 in absurd (omega (arith, past, below))
one_off network link frame a b (inr (inr one)) (inl two) = let past = two.1 in let below = one.1 in absurd (omega (arith, past, below))
one_off network link frame a b (inr (inl one)) (inr (inl two)) = one.0 ∙ sym two.0
one_off network link frame a b (inr (inl one)) (inr (inr two)) = absurd (one.2 two.2)
one_off network link frame a b (inr (inr one)) (inr (inl two)) = absurd (two.2 one.2)
one_off network link frame a b (inr (inr one)) (inr (inr two)) = one.0 ∙ sym two.0

one_frame : (network : Network) (link : ℕ) (before : List Frame) (i : Frame) (a b : Wrong) → IsWrongFrame network link before i a
    → IsWrongFrame network link before i b → a ≡ b
one_frame network link before i a b (inl one) (inl two) = one_off network link i a b one two
one_frame network link before i a b (inl one) (inr two) = absurd (off_refutes network link i a one two.1)
one_frame network link before i a b (inr one) (inl two) = absurd (off_refutes network link i b two one.1)
one_frame network link before i a b (inr one) (inr two) = one.0 ∙ sym two.0

one_choice : (frames before : List Frame) (i : Frame) (a b : Wrong) → IsWrongChoice frames before i a → IsWrongChoice frames before i b → a ≡ b
one_choice frames before i a b (inl one) (inl two) = one.0 ∙ sym two.0
one_choice frames before i a b (inl one) (inr two) = absurd (one.1 two.1)
one_choice frames before i a b (inr one) (inl two) = absurd (two.1 one.1)
one_choice frames before i a b (inr one) (inr two) = one.0 ∙ sym two.0

one_on : (network : Network) (link : ℕ) (frames : List Frame) (a b : Wrong) → AreWrongOn network link frames a → AreWrongOn network link frames b → a ≡ b
one_on network link = one_first_wrong (AreOn network link) (IsWrongFrame network link) (on_clash network link) (one_frame network link)

empty_first : (frames some : List Frame) (fault : Wrong) → some ≡ [] → IsFirstWrong (AreAmong frames) (IsWrongChoice frames) some fault → ⊥
empty_first frames some fault none wrong =
    let empty : length some ≡ 0 = ap length none in
    let below = slice_get_within some wrong.k wrong.there wrong.at in
    omega (arith, empty, below)

one_among : (frames some : List Frame) (a b : Wrong) → AreWrongAmong frames some a → AreWrongAmong frames some b → a ≡ b
one_among frames some a b (inl one) (inl two) = one.0 ∙ sym two.0
one_among frames some a b (inl one) (inr two) = absurd (empty_first frames some b one.1 two)
one_among frames some a b (inr one) (inl two) = absurd (empty_first frames some a two.1 one)
one_among frames some a b (inr one) (inr two) =
    one_first_wrong (AreAmong frames) (IsWrongChoice frames) (among_clash frames) (one_choice frames) some a b one two

one_placing : (network : Network) (link : ℕ) (frame : Frame) (frames some : List Frame) (bound end : ℤ) (of_others : Bool) (a b : Wrong)
    → IsWrongPlacing network link frame frames some bound end of_others a
    → IsWrongPlacing network link frame frames some bound end of_others b → a ≡ b
one_placing network link frame frames some bound end of_others a b (inl one) (inl two) = one_on network link (frame ∷ frames) a b one two
one_placing network link frame frames some bound end of_others a b (inl one) (inr (inl two)) = absurd (on_refuted network link (frame ∷ frames) a one two.0)
one_placing network link frame frames some bound end of_others a b (inl one) (inr (inr two)) = absurd (on_refuted network link (frame ∷ frames) a one two.0)
one_placing network link frame frames some bound end of_others a b (inr (inl one)) (inl two) = absurd (on_refuted network link (frame ∷ frames) b two one.0)
one_placing network link frame frames some bound end of_others a b (inr (inr one)) (inl two) = absurd (on_refuted network link (frame ∷ frames) b two one.0)
one_placing network link frame frames some bound end of_others a b (inr (inl one)) (inr (inl two)) = one_among frames some a b one.1 two.1
one_placing network link frame frames some bound end of_others a b (inr (inl one)) (inr (inr two)) = absurd (some_refuted frames some a one.1 two.1)
one_placing network link frame frames some bound end of_others a b (inr (inr one)) (inr (inl two)) = absurd (some_refuted frames some b two.1 one.1)
one_placing network link frame frames some bound end of_others a b (inr (inr one)) (inr (inr two)) = one.2.0 ∙ sym two.2.0

one_order : (network : Network) (view : View) (before : List Decision) (decision : Decision) (a b : Wrong) → IsWrongOrder network view before decision a
    → IsWrongOrder network view before decision b → a ≡ b
one_order network view before decision a b (inl one) (inl two) = one.0 ∙ sym two.0
one_order network view before decision a b (inl one) (inr two) = absurd (one.1 two.1)
one_order network view before decision a b (inr one) (inl two) = absurd (two.1 one.1)
one_order network view before decision a b (inr one) (inr two) = one.0 ∙ sym two.0

module _ (network : Network) (view : View) (decisions : List Decision) where
  no_order : (fault : Wrong) → IsFirstWrong (LeadOn network view) (IsWrongOrder network view) decisions fault → LeadOn network view decisions → ⊥
  no_order fault = first_wrong_refutes (LeadOn network view) (IsWrongOrder network view) (order_clash network view) decisions fault

  one_unclosed : (a b : Wrong) → IsUnclosed network view decisions a → IsUnclosed network view decisions b → a ≡ b
  one_unclosed a b (inl one) (inl two) =
      one_first_wrong (LeadOn network view) (IsWrongOrder network view) (order_clash network view) (one_order network view) decisions a b one two
  one_unclosed a b (inl one) (inr two) = absurd (no_order a one two.0)
  one_unclosed a b (inr one) (inl two) = absurd (no_order b two one.0)
  one_unclosed a b (inr one) (inr two) = one.1 ∙ sym two.1

one_asked : (decision : Decision) (arc known : Arc) (a b : Wrong) → AsksMore decision arc known a → AsksMore decision arc known b → a ≡ b
one_asked decision arc known a b (inl one) (inl two) = one.0 ∙ sym two.0
one_asked decision arc known a b (inl one) (inr two) = absurd (one.1 two.0)
one_asked decision arc known a b (inr one) (inl two) = absurd (two.1 one.0)
one_asked decision arc known a b (inr one) (inr two) = one.1 ∙ sym two.1

one_edge : (view : View) (frames : List Frame) (edge : Edge) (a b : Wrong) → IsWrongEdge view frames edge a → IsWrongEdge view frames edge b → a ≡ b
one_edge view frames outermost a b one two = absurd one
one_edge view frames (beside frame) a b (inl one) (inl two) = one.0 ∙ sym two.0
one_edge view frames (beside frame) a b (inl one) (inr two) = absurd (one.1 two.1)
one_edge view frames (beside frame) a b (inr one) (inl two) = absurd (two.1 one.1)
one_edge view frames (beside frame) a b (inr one) (inr two) = one.0 ∙ sym two.0

module _ (network : Network) (view : View) (link : ℕ) (frames : List Frame) (low high work least most : ℕ) where
  same_open : (x y : ℕ) → IsFirstOpen network view link frames low high work least most x → IsFirstOpen network view link frames low high work least most y
      → x ≡ y
  same_open x y one two = elim (cases_lt x y) [
    | inl below ↦ absurd (one.opens (two.before x one.after below))
    | inr above ↦ elim (cases_lt y x) [
      | inl below ↦ absurd (two.opens (one.before y two.after below))
      | inr past ↦ omega arith
    ]
  ]

  one_open : (a b : Wrong) → HasOpen network view link frames low high work least most a → HasOpen network view link frames low high work least most b → a ≡ b
  one_open a b one two = one.1 ∙ ap (Open link) (same_open one.0 two.0 one.2 two.2) ∙ sym two.1

one_filling : (network : Network) (view : View) (link : ℕ) (frame : Frame) (frames : List Frame) (before after : Edge) (least most : ℕ) (a b : Wrong)
    → IsWrongFilling network view link frame frames before after least most a
    → IsWrongFilling network view link frame frames before after least most b → a ≡ b
one_filling network view link frame frames before after least most a b (inl one) (inl two) = one_on network link (frame ∷ frames) a b one two
one_filling network view link frame frames before after least most a b (inl one) (inr (inl two)) = absurd (on_refuted network link (frame ∷ frames) a one two.0)
one_filling network view link frame frames before after least most a b (inl one) (inr (inr (inl two))) = absurd
    (on_refuted network link (frame ∷ frames) a one two.0)
one_filling network view link frame frames before after least most a b (inl one) (inr (inr (inr two))) = absurd
    (on_refuted network link (frame ∷ frames) a one two.0)
one_filling network view link frame frames before after least most a b (inr (inl one)) (inl two) = absurd (on_refuted network link (frame ∷ frames) b two one.0)
one_filling network view link frame frames before after least most a b (inr (inr (inl one))) (inl two) = absurd
    (on_refuted network link (frame ∷ frames) b two one.0)
one_filling network view link frame frames before after least most a b (inr (inr (inr one))) (inl two) = absurd
    (on_refuted network link (frame ∷ frames) b two one.0)
one_filling network view link frame frames before after least most a b (inr (inl one)) (inr (inl two)) = one_edge view frames before a b one.1 two.1
one_filling network view link frame frames before after least most a b (inr (inl one)) (inr (inr (inl two))) = absurd
    (edge_refuted view frames before a one.1 two.1)
one_filling network view link frame frames before after least most a b (inr (inl one)) (inr (inr (inr two))) = absurd
    (edge_refuted view frames before a one.1 two.1)
one_filling network view link frame frames before after least most a b (inr (inr (inl one))) (inr (inl two)) = absurd
    (edge_refuted view frames before b two.1 one.1)
one_filling network view link frame frames before after least most a b (inr (inr (inr one))) (inr (inl two)) = absurd
    (edge_refuted view frames before b two.1 one.1)
one_filling network view link frame frames before after least most a b (inr (inr (inl one))) (inr (inr (inl two))) = one_edge view frames after a b one.2 two.2
one_filling network view link frame frames before after least most a b (inr (inr (inl one))) (inr (inr (inr two))) = absurd
    (edge_refuted view frames after a one.2 two.2)
one_filling network view link frame frames before after least most a b (inr (inr (inr one))) (inr (inr (inl two))) = absurd
    (edge_refuted view frames after b two.2 one.2)
one_filling network view link frame frames before after least most a b (inr (inr (inr one))) (inr (inr (inr two))) =
    one_open network view link (frame ∷ frames) _ _ _ least most a b one.3 two.3

one_turn : (network : Network) (view : View) (link : ℕ) (frames : List Frame) (low : ℕ) (fixed : List Frame) (a b : Wrong)
    → IsWrongTurn network view link frames low fixed a → IsWrongTurn network view link frames low fixed b → a ≡ b
one_turn network view link frames low [] a b one two = absurd one
one_turn network view link frames low (frame ∷ fixed) a b (inl one) (inl two) = one.0 ∙ sym two.0
one_turn network view link frames low (frame ∷ fixed) a b (inl one) (inr (inl two)) = absurd (one.1 two.1)
one_turn network view link frames low (frame ∷ fixed) a b (inl one) (inr (inr (inl two))) = absurd (one.1 two.1)
one_turn network view link frames low (frame ∷ fixed) a b (inl one) (inr (inr (inr two))) = absurd (one.1 two.0)
one_turn network view link frames low (frame ∷ fixed) a b (inr (inl one)) (inl two) = absurd (two.1 one.1)
one_turn network view link frames low (frame ∷ fixed) a b (inr (inr (inl one))) (inl two) = absurd (two.1 one.1)
one_turn network view link frames low (frame ∷ fixed) a b (inr (inr (inr one))) (inl two) = absurd (two.1 one.0)
one_turn network view link frames low (frame ∷ fixed) a b (inr (inl one)) (inr (inl two)) = one.0 ∙ sym two.0
one_turn network view link frames low (frame ∷ fixed) a b (inr (inl one)) (inr (inr (inl two))) = absurd (one.2 two.2)
one_turn network view link frames low (frame ∷ fixed) a b (inr (inl one)) (inr (inr (inr two))) = absurd (one.2 two.1)
one_turn network view link frames low (frame ∷ fixed) a b (inr (inr (inl one))) (inr (inl two)) = absurd (two.2 one.2)
one_turn network view link frames low (frame ∷ fixed) a b (inr (inr (inr one))) (inr (inl two)) = absurd (two.2 one.1)
one_turn network view link frames low (frame ∷ fixed) a b (inr (inr (inl one))) (inr (inr (inl two))) = one.0 ∙ sym two.0
one_turn network view link frames low (frame ∷ fixed) a b (inr (inr (inl one))) (inr (inr (inr two))) =
    let begins = one.3 in let later = two.2 in absurd (omega (arith, begins, later))
one_turn network view link frames low (frame ∷ fixed) a b (inr (inr (inr one))) (inr (inr (inl two))) =
    let begins = two.3 in let later = one.2 in absurd (omega (arith, begins, later))
one_turn network view link frames low (frame ∷ fixed) a b (inr (inr (inr one))) (inr (inr (inr two))) =
    one_turn network view link frames (natural (end_at network view link frame)) fixed a b one.3 two.3

pub one_move : (network : Network) (clauses : List (List Fact)) (view : View) (move : Move) (a b : Wrong) → IsWrongMove network clauses view move a
    → IsWrongMove network clauses view move b → a ≡ b
one_move network clauses view (turn decision) a b (inl one) (inl two) = one.0 ∙ sym two.0
one_move network clauses view (turn decision) a b (inl one) (inr two) = absurd (one.1 two.0)
one_move network clauses view (turn decision) a b (inr one) (inl two) = absurd (two.1 one.0)
one_move network clauses view (turn decision) a b (inr one) (inr two) = one.1.0 ∙ sym two.1.0
one_move network clauses view (apply k) a b (inl one) (inl two) = one.0 ∙ sym two.0
one_move network clauses view (apply k) a b (inl one) (inr two) = let past = one.1 in let below = two.0 in absurd (omega (arith, past, below))
one_move network clauses view (apply k) a b (inr one) (inl two) = let past = two.1 in let below = one.0 in absurd (omega (arith, past, below))
one_move network clauses view (apply k) a b (inr one) (inr two) = one.1 ∙ sym two.1
one_move network clauses view (put_last link frame frames some) a b one two = one_placing network link frame frames some _ _ _ a b one two
one_move network clauses view (put_first link frame frames some) a b one two = one_placing network link frame frames some _ _ _ a b one two
one_move network clauses view (pack link frames) a b (inl one) (inl two) = one_on network link frames a b one two
one_move network clauses view (pack link frames) a b (inl one) (inr two) = absurd (on_refuted network link frames a one two.0)
one_move network clauses view (pack link frames) a b (inr one) (inl two) = absurd (on_refuted network link frames b two one.0)
one_move network clauses view (pack link frames) a b (inr one) (inr two) = one.1.0 ∙ sym two.1.0
one_move network clauses view (round decisions) a b (inl one) (inl two) = one_unclosed network view decisions a b one two
one_move network clauses view (round decisions) a b (inl one) (inr two) = absurd (unclosed_refuted network view decisions a one two.0)
one_move network clauses view (round decisions) a b (inr one) (inl two) = absurd (unclosed_refuted network view decisions b two one.0)
one_move network clauses view (round decisions) a b (inr one) (inr two) = one.1 ∙ sym two.1
one_move network clauses view (follow decision weaker) a b (inl one) (inl two) = one.0 ∙ sym two.0
one_move network clauses view (follow decision weaker) a b (inl one) (inr (inl two)) = absurd (one.1 two.0)
one_move network clauses view (follow decision weaker) a b (inl one) (inr (inr two)) = absurd (one.1 two.0)
one_move network clauses view (follow decision weaker) a b (inr (inl one)) (inl two) = absurd (two.1 one.0)
one_move network clauses view (follow decision weaker) a b (inr (inr one)) (inl two) = absurd (two.1 one.0)
one_move network clauses view (follow decision weaker) a b (inr (inl one)) (inr (inl two)) = one.1 ∙ sym two.1
one_move network clauses view (follow decision weaker) a b (inr (inl one)) (inr (inr two)) = absurd (one.2 two.1)
one_move network clauses view (follow decision weaker) a b (inr (inr one)) (inr (inl two)) = absurd (two.2 one.1)
one_move network clauses view (follow decision weaker) a b (inr (inr one)) (inr (inr two)) = one_asked weaker _ _ a b one.2 two.2
one_move network clauses view (fill link frame frames before after start) a b one two = one_filling network view link frame frames before after _ _ a b one two
one_move network clauses view (fill_back link frame frames before after finish) a b one two =
    one_filling network view link frame frames before after _ _ a b one two
one_move network clauses view (waste link frames fixed) a b (inl one) (inl two) = one_on network link frames a b one two
one_move network clauses view (waste link frames fixed) a b (inl one) (inr (inl two)) = absurd (on_refuted network link frames a one two.0)
one_move network clauses view (waste link frames fixed) a b (inl one) (inr (inr two)) = absurd (on_refuted network link frames a one two.0)
one_move network clauses view (waste link frames fixed) a b (inr (inl one)) (inl two) = absurd (on_refuted network link frames b two one.0)
one_move network clauses view (waste link frames fixed) a b (inr (inr one)) (inl two) = absurd (on_refuted network link frames b two one.0)
one_move network clauses view (waste link frames fixed) a b (inr (inl one)) (inr (inl two)) =
    one_turn network view link frames (natural (first_head network view link frames)) fixed a b one.1 two.1
one_move network clauses view (waste link frames fixed) a b (inr (inl one)) (inr (inr two)) =
    absurd (turn_refuted network view link frames (natural (first_head network view link frames)) fixed a one.1 two.1 two.2)
one_move network clauses view (waste link frames fixed) a b (inr (inr one)) (inr (inl two)) =
    absurd (turn_refuted network view link frames (natural (first_head network view link frames)) fixed b two.1 one.1 one.2)
one_move network clauses view (waste link frames fixed) a b (inr (inr one)) (inr (inr two)) = one.3.0 ∙ sym two.3.0
one_move network clauses view _ a b one two = one.0 ∙ sym two.0
