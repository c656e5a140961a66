-- Places by the splits that made them.
use Rattle.std.proofs.Common.{pos, ◌≡◌, ℕ, zero, suc, ◌+◌, ◌*◌, ◌<◌, List, [], ◌∷◌, ◌++◌, map, length, get_or, set, All, refl, ap, ◌∙◌, arith}
use Rattle.std.specs.List.{flat_map}
use Rattle.std.proofs.lemmas.List.{map-append, map-set, get_or_append_left, get_or-append-add}
use Rattle.std.proofs.lemmas.List.Elements.{All-head, All-tail}
use Rattle.tsn_book.specs.declared.statuses.Origin.{Origin}
use Rattle.tsn_book.specs.declared.statuses.Status.TheVariants.{Open, Split}
use Rattle.tsn_book.specs.declared.statuses.Mark.{Mark}
use Rattle.tsn_book.specs.declared.statuses.Mark.TheVariants.{Open as marked_open, Split as marked_split, Leaf as marked_leaf}
use Rattle.tsn_book.specs.declared.statuses.Branching.{Branching}
use Rattle.tsn_book.specs.Places.{children_made, origins_of, split_at, status_of, IsStored, ArePlaces}

-- two places a split
pub length-flat : (splits : List Branching) → length (flat_map children_made splits) ≡ 2 * length splits
length-flat [] = refl
length-flat (split ∷ splits) = omega (arith, length-flat splits)

pub length-origins_of : (splits : List Branching) → length (origins_of splits) ≡ 2 * length splits + 1
length-origins_of splits = omega (arith, length-flat splits)

-- a split's children
pub child_made : (splits : List Branching) (number side place : ℕ) → place ≡ 2 * number + side → number < length splits → side < 2
    → (e : Branching) (d : Origin)
    → get_or (flat_map children_made splits) place d ≡ get_or (children_made (get_or splits number e)) side d
child_made [] number side place is within below e d = absurd (omega (arith, within))
child_made (split ∷ splits) zero side place is within below e d =
    let same : place ≡ side = omega (arith, is) in
    ap (λ k. get_or (children_made split ++ flat_map children_made splits) k d) same
    ∙ get_or_append_left (children_made split) (flat_map children_made splits) d side below
child_made (split ∷ splits) (suc number) side place is within below e d =
    let past : place ≡ length (children_made split) + (2 * number + side) = omega (arith, is) in
    ap (λ k. get_or (children_made split ++ flat_map children_made splits) k d) past
    ∙ get_or-append-add (children_made split) (flat_map children_made splits) (2 * number + side) d
    ∙ child_made splits number side (2 * number + side) refl (omega (arith, within)) below e d

-- what is known of a place stays when more places are split
pub status_stays : (splits more : List Branching) (mark : Mark) → IsStored (length splits) mark → status_of (splits ++ more) mark ≡ status_of splits mark
status_stays splits more marked_open stored = refl
status_stays splits more (marked_split number) stored =
    let none : Branching = record { place = 0; triple = record { left = 0; right = 0; link = 0; lag = pos 0 }; event = 0 } in
    ap (λ (b : Branching). Split b.triple (2 * number + 1) b.event) (get_or_append_left splits more none number stored)
status_stays splits more (marked_leaf event) stored = refl

pub statuses_stay : (splits more : List Branching) (marks : List Mark) → All (IsStored (length splits)) marks
    → map (status_of (splits ++ more)) marks ≡ map (status_of splits) marks
statuses_stay splits more [] stored = refl
statuses_stay splits more (mark ∷ marks) stored =
    ap (λ status. status ∷ map (status_of (splits ++ more)) marks) (status_stays splits more mark (All-head (IsStored (length splits)) mark marks stored))
    ∙ ap (λ statuses. status_of splits mark ∷ statuses) (statuses_stay splits more marks (All-tail (IsStored (length splits)) mark marks stored))

-- what is known of the places after one more split
pub split_statuses : (marks : List Mark) (splits : List Branching) → ArePlaces marks splits → (place number : ℕ) (split : Branching) → number ≡ length splits
    → map (status_of (splits ++ split ∷ [])) ((set marks place (marked_split number) ++ marked_open ∷ []) ++ marked_open ∷ [])
    ≡ (set (map (status_of splits) marks) place (Split split.triple (length (origins_of splits)) split.event) ++ Open ∷ []) ++ Open ∷ []
split_statuses marks splits places place number split is =
    let after = status_of (splits ++ split ∷ []) in
    let marked = set marks place (marked_split number) in
    let none : Branching = record { place = 0; triple = record { left = 0; right = 0; link = 0; lag = pos 0 }; event = 0 } in
    let last : number ≡ length splits + 0 = omega (arith, is) in
    let read : split_at (splits ++ split ∷ []) number ≡ split = ap (split_at (splits ++ split ∷ [])) last ∙ get_or-append-add splits (split ∷ []) 0 none in
    let children : 2 * number + 1 ≡ length (origins_of splits) = omega (arith, is, length-origins_of splits) in
    let new : after (marked_split number) ≡ Split split.triple (length (origins_of splits)) split.event =
    ap (λ (b : Branching). Split b.triple (2 * number + 1) b.event) read ∙ ap (λ k. Split split.triple k split.event) children in
    map-append after (marked ++ marked_open ∷ []) (marked_open ∷ [])
    ∙ ap (λ statuses. statuses ++ Open ∷ []) (map-append after marked (marked_open ∷ []))
    ∙ ap (λ statuses. (statuses ++ Open ∷ []) ++ Open ∷ [])
    (map-set after marks place (marked_split number) ∙ (λ i. set (statuses_stay splits (split ∷ []) marks places.stored i) place (new i)))
