use Rattle.std.proofs.Common.{◌≡◌, ℕ, ◌+◌, ◌-◌, ◌<◌, List, [], ◌∷◌, ◌++◌, length, get_or, take, vec_len, sym, ap, ◌∙◌, arith, refl}
use Rattle.std.specs.Prelude.{slice_set}
use Rattle.std.proofs.lemmas.Bool.{false≢true}
use Rattle.std.proofs.lemmas.List.{take_all, take_more, take_more_set, take-set, take-map, map-set, length-set, length-map, get_or-map, nil_from_length}
use Rattle.std.proofs.lemmas.List.Elements.{All-set, All-take}
use Rattle.tsn_model.specs.declared.Triple.{Triple}
use Rattle.tsn_model.specs.declared.Side.{Side}
use Rattle.tsn_model.specs.declared.Side.TheVariants.{Left, Right}
use Rattle.tsn_model.specs.declared.Decision.{Decision}
use Rattle.tsn_model.specs.Certificate.{decided}
use Rattle.tsn_check.specs.declared.path.Turn.{Turn}
use Rattle.tsn_model.specs.Places.{pending}
use Rattle.tsn_check.specs.Turns.{IsTurn, decisions}
use Rattle.tsn_model.proofs.Places.{pending-nil, pending-left, pending-right}
use Rattle.tsn_check.proofs.path.next_place.Goals as goal

-- ---- a path of decisions, by its last one

by_last : (path : List Decision) (k : ℕ) (last : Decision) → length path ≡ k + 1 → last ≡ get_or path k last → path ≡ decided (take k path) last.triple last.side
unfolding decided
by_last path k last long is = sym (take_all (k + 1) path (omega arith)) ∙ take_more path k last (omega arith) ∙ ap (λ d. take k path ++ d ∷ []) (sym is)

set_last : (path : List Decision) (k : ℕ) (triple : Triple) (side : Side) → length path ≡ k + 1 → slice_set path k (record { triple = triple; side = side }) ≡ decided (take k path) triple side
unfolding decided
set_last path k triple side long =
    let changed : Decision = record { triple = triple; side = side } in
    sym (take_all (k + 1) (slice_set path k changed) (omega (arith, length-set path k changed))) ∙ take_more_set path k changed (omega arith)

-- the right side of a last left turn is the first place that waits
turned : (path : List Decision) (k : ℕ) (last : Decision) → length path ≡ k + 1 → last ≡ get_or path k last → last.side ≡ Left
    → pending path ≡ slice_set path k (record { triple = last.triple; side = Right }) ∷ pending (slice_set path k (record { triple = last.triple; side = Right }))
turned path k last long is left =
    let new = set_last path k last.triple Right long in
    ap pending (by_last path k last long is ∙ ap (decided (take k path) last.triple) left) ∙ pending-left (take k path) last.triple
    ∙ (λ i. sym new i ∷ sym (ap pending new ∙ pending-right (take k path) last.triple) i)

-- nothing waits at a last right turn
popped : (path : List Decision) (k : ℕ) (last : Decision) → length path ≡ k + 1 → last ≡ get_or path k last → last.side ≡ Right → pending (take k path) ≡ pending path
popped path k last long is right = sym (ap pending (by_last path k last long is ∙ ap (decided (take k path) last.triple) right) ∙ pending-right (take k path) last.triple)

-- ---- and of the code's turns

length-decisions : (turns : List Turn) → length (decisions turns) ≡ length turns
length-decisions turns = length-map turns (λ (turn : Turn). turn.decision)

last_decision : (turns : List Turn) (k : ℕ) (last : Turn) → length turns ≡ k + 1 → last ≡ get_or turns k last → last.decision ≡ get_or (decisions turns) k last.decision
last_decision turns k last long is = cc (get_or-map (λ (turn : Turn). turn.decision) turns k last last.decision (omega arith))

turned_right : (turns : List Turn) (k : ℕ) (last next : Turn) → length turns ≡ k + 1 → last ≡ get_or turns k last → last.decision.side ≡ Left → next.decision ≡ record { triple = last.decision.triple; side = Right }
    → pending (decisions turns) ≡ decisions (slice_set turns k next) ∷ pending (decisions (slice_set turns k next))
turned_right turns k last next long is left turns_right = grind (arith, map-set, turned, length-decisions, last_decision)

turned_back : (turns : List Turn) (k : ℕ) (last : Turn) → length turns ≡ k + 1 → last ≡ get_or turns k last → last.decision.side ≡ Right → pending (decisions (take k turns)) ≡ pending (decisions turns)
turned_back turns k last long is right =
    ap pending (sym (take-map (λ (turn : Turn). turn.decision) k turns))
    ∙ popped (decisions turns) k last.decision (length-decisions turns ∙ long) (last_decision turns k last long is) right

last_conflict : (P : Turn → Type 0) (turns : List Turn) (k : ℕ) (last : Turn) → ((i : ℕ) (d : Turn) → i < length turns → P (get_or turns i d)) → length turns ≡ k + 1 → last ≡ get_or turns k last → P last
last_conflict P turns k last all long is = rw is (all k last (omega arith))

pub turn_to-requires : goal.turn_to-requires
turn_to-requires c =
    let some = c.in-Some.ensures.variant.0 refl in
    (last_conflict (IsTurn c.args.timing.now) c.loop-last.path.items (vec_len c.loop-last.path - 1) c.in-Some.last.now c.loop-last.invariant.turns (omega arith) c.in-Some.ensures.value).conflict

pub returns-in-Left-clause-turns : goal.returns-in-Left-clause-turns
returns-in-Left-clause-turns c = All-set (IsTurn c.args.timing.now) c.loop-last.path.items (vec_len c.loop-last.path - 1) c.turn_to.result c.turn_to.ensures.turn c.loop-last.invariant.turns

pub returns-in-Left-clause-next : goal.returns-in-Left-clause-next
returns-in-Left-clause-next c = grind (arith, turned_right)

pub loop-last-preserved : goal.loop-last-preserved
loop-last-preserved c =
    let some = c.in-Some.ensures.variant.0 refl in
    let k : ℕ = vec_len c.loop-last.path - 1 in
    let at : c.len.result - 1 ≡ k = omega arith in
    let shorter : c.truncate.new.self.items ≡ take k c.loop-last.path.items = cc (take-set c.loop-last.path.items k c.in-Some.last.now) in
    record {
      turns = rw shorter (All-take (IsTurn c.args.timing.now) k c.loop-last.path.items c.loop-last.invariant.turns);
      same = cc (turned_back c.loop-last.path.items k c.in-Some.last.now (omega arith) c.in-Some.ensures.value c.in-Right.is);
    }

pub returns-clause-next : goal.returns-clause-next
returns-clause-next c =
    let none : vec_len c.loop-last.path ≡ 0 = omega (arith, λ (some : 0 < vec_len c.loop-last.path). false≢true (c.in_default.ensures.variant.1 some)) in
    sym c.loop-last.invariant.same ∙ ap (λ items. pending (decisions items)) (nil_from_length c.loop-last.path.items (omega arith)) ∙ pending-nil
