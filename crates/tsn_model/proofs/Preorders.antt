-- The settlements of a growth are in the order of their paths.
use Rattle.std.proofs.Common.{◌≡◌, List, [], ◌∷◌, ◌++◌, length, All, AllPairs, sym, ap, ◌∙◌, subst, arith, append_assoc, inl, inr}
use Rattle.std.proofs.lemmas.List.{append-nil, length-append, append_cancel_left, nil_from_length}
use Rattle.std.proofs.lemmas.List.Elements.{All-nil, All-cons, All-append, All-weaker, All-contains}
use Rattle.std.proofs.lemmas.List.Kept.{AllPairs-cons}
use Rattle.tsn_model.specs.declared.Triple.{Triple}
use Rattle.tsn_model.specs.declared.Side.{Side}
use Rattle.tsn_model.specs.declared.Side.TheVariants.{Left, Right}
use Rattle.tsn_model.specs.declared.Decision.{Decision}
use Rattle.tsn_model.specs.Certificate.{decided}
use Rattle.tsn_model.specs.Search.{Settlement}
use Rattle.tsn_model.specs.Order.{Precedes}
use Rattle.tsn_model.proofs.SearchLists.{AllPairs-nil, AllPairs-append_each}
use Rattle.tsn_model.proofs.Growths.{Growth, open_place, leaf_place, branch_place, in_order, Stands}

-- the path begins with another
pub record Begins (front path : List Decision) : Type 0 where
  pub rest : List Decision
  pub is : path ≡ front ++ rest

pub Begins-itself : (front path : List Decision) → path ≡ front → Begins front path
Begins-itself front path same = record { rest = []; is = same ∙ sym (append-nil front) }

-- what begins with a longer path begins with the shorter one, and is longer
pub longer : (path : List Decision) (triple : Triple) (side : Side) (rest : List Decision) → decided path triple side ++ rest ≡ path ++ record { triple = triple; side = side } ∷ rest
unfolding decided
longer path triple side rest = append_assoc path (record { triple = triple; side = side } ∷ []) rest

pub Begins-shorter : (path : List Decision) (triple : Triple) (side : Side) (other : List Decision) → Begins (decided path triple side) other → Begins path other
Begins-shorter path triple side other begins = record { rest = record { triple = triple; side = side } ∷ begins.rest; is = begins.is ∙ longer path triple side begins.rest }

abbrev AllBegin : List Decision → List Settlement → Type 0
AllBegin path settlements = All (λ (s : Settlement). Begins path s.event.path) settlements

in_order_begin : (path : List Decision) (growth : Growth) → Stands path growth → AllBegin path (in_order growth)
unfolding in_order
in_order_begin path open_place stands = All-nil (λ (s : Settlement). Begins path s.event.path)
in_order_begin path (leaf_place settlement) stands =
    All-cons (λ (s : Settlement). Begins path s.event.path) settlement [] (Begins-itself path settlement.event.path stands.0) (All-nil (λ (s : Settlement). Begins path s.event.path))
in_order_begin path (branch_place settlement triple first second) stands =
    let begins = λ (s : Settlement). Begins path s.event.path in
    All-cons begins settlement (in_order first ++ in_order second) (Begins-itself path settlement.event.path stands.0)
    (All-append begins (in_order first) (in_order second)
    (All-weaker (λ (s : Settlement). Begins (decided path triple Left) s.event.path) begins (λ s. Begins-shorter path triple Left s.event.path) (in_order first)
    (in_order_begin (decided path triple Left) first stands.2))
    (All-weaker (λ (s : Settlement). Begins (decided path triple Right) s.event.path) begins (λ s. Begins-shorter path triple Right s.event.path) (in_order second)
    (in_order_begin (decided path triple Right) second stands.3)))

-- a path precedes each that begins with a longer one
precedes_below : (path : List Decision) (triple : Triple) (side : Side) (other : List Decision) → Begins (decided path triple side) other → Precedes path other
precedes_below path triple side other begins =
    inl (record { triple = triple; side = side } ∷ begins.rest, (λ none. let clash : record { triple = triple; side = side } ∷ begins.rest ≡ [] = none in cc), begins.is ∙ longer path triple side begins.rest)

abbrev pub SettledBefore : Settlement → Settlement → Type 0
SettledBefore a b = Precedes a.event.path b.event.path

pub in_order_ordered : (path : List Decision) (growth : Growth) → Stands path growth → AllPairs SettledBefore (in_order growth)
unfolding in_order
in_order_ordered path open_place stands = AllPairs-nil SettledBefore
in_order_ordered path (leaf_place settlement) stands = AllPairs-cons SettledBefore settlement [] (All-nil (SettledBefore settlement)) (AllPairs-nil SettledBefore)
in_order_ordered path (branch_place settlement triple first second) stands =
    let lefts = in_order_begin (decided path triple Left) first stands.2 in
    let rights = in_order_begin (decided path triple Right) second stands.3 in
    let below = λ (side : Side) (s : Settlement) (begins : Begins (decided path triple side) s.event.path). subst (λ p. Precedes p s.event.path) (sym stands.0) (precedes_below path triple side s.event.path begins) in
    AllPairs-cons SettledBefore settlement (in_order first ++ in_order second)
    (All-append (SettledBefore settlement) (in_order first) (in_order second)
    (All-weaker (λ (s : Settlement). Begins (decided path triple Left) s.event.path) (SettledBefore settlement) (below Left) (in_order first) lefts)
    (All-weaker (λ (s : Settlement). Begins (decided path triple Right) s.event.path) (SettledBefore settlement) (below Right) (in_order second) rights))
    (AllPairs-append_each SettledBefore (in_order first) (in_order second)
    (in_order_ordered (decided path triple Left) first stands.2) (in_order_ordered (decided path triple Right) second stands.3)
    (λ a b in_first in_second.
    let left = All-contains (λ (s : Settlement). Begins (decided path triple Left) s.event.path) (in_order first) a lefts in_first in
    let right = All-contains (λ (s : Settlement). Begins (decided path triple Right) s.event.path) (in_order second) b rights in_second in
    inr (path, triple, left.rest, right.rest, left.is, right.is)))

-- no path precedes itself
pub Precedes-irreflexive : (path : List Decision) → Precedes path path → ⊥
Precedes-irreflexive path (inl longer') =
    let same : length path ≡ length (path ++ longer'.0) = ap length longer'.2 in
    longer'.1 (nil_from_length longer'.0 (omega (arith, length-append path longer'.0)))
Precedes-irreflexive path (inr turn) =
    let left : Decision = record { triple = turn.1; side = Left } in
    let right : Decision = record { triple = turn.1; side = Right } in
    let same : turn.0 ++ left ∷ turn.2 ≡ turn.0 ++ right ∷ turn.3 =
    sym (turn.4 ∙ longer turn.0 turn.1 Left turn.2) ∙ (turn.5 ∙ longer turn.0 turn.1 Right turn.3) in
    let heads : left ∷ turn.2 ≡ right ∷ turn.3 = append_cancel_left turn.0 (left ∷ turn.2) (right ∷ turn.3) same in
    let sides : Left ≡ Right = ap (λ (d : Decision). d.side) (first_same left right turn.2 turn.3 heads) in
    cc
  where
    first_same : (a b : Decision) (as' bs : List Decision) → a ∷ as' ≡ b ∷ bs → a ≡ b
    first_same a b as' bs same = cc
