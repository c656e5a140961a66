-- What a look for the first overlap knows after some offsets were raised.
use Rattle.std.proofs.Common.{◌≡◌, ℕ, pos, ◌≤◌, ◌<◌, true, List, length, get_or, All, sym, ap, ◌∙◌, subst, arith, refl, eq-eqb}
use Rattle.std.proofs.lemmas.Bool.{or_left, or_right}
use Rattle.std.proofs.lemmas.Int.{ints}
use Rattle.std.proofs.lemmas.List.{get_or_default}
use Rattle.std.proofs.lemmas.List.Elements.{All-contains}
use Rattle.tsn_model.specs.declared.Triple.{Triple}
use Rattle.tsn_model.specs.Network.{Network}
use Rattle.tsn_model.specs.Schedule.{IsFirstOverlap, TripleBefore, AreApart}
use Rattle.tsn_model.specs.Arcs.{conflicts_of}
use Rattle.tsn_model.proofs.Conflicts.{conflicts_ordered}
use Rattle.tsn_conflict.specs.Kept.{Kept, AreConflictsOf}
use Rattle.tsn_conflict.specs.Raised.{triple_at, OnlyRaisedOverlap}
use Rattle.tsn_conflict.specs.Laws.{ParentsOverlapStarts}
use Rattle.tsn_conflict.specs.Pairs.{Meets, IsApartBefore, has_stream}
use Rattle.tsn_conflict.proofs.Meeting.{conflict_at, meets_from, overlaps_from}
use Rattle.tsn_conflict.proofs.Order.{AreApartBefore, all_apart, first_from}

-- ---- the first overlap, by the numbers of the triples

left_on_side : (triple : Triple) → has_stream triple.left triple ≡ true
left_on_side triple = or_left _ _ (eq-eqb triple.left triple.left refl)

right_on_side : (triple : Triple) → has_stream triple.right triple ≡ true
right_on_side triple = or_right _ _ (eq-eqb triple.right triple.right refl)

module _ (network : Network) (kept : Kept) (is : AreConflictsOf network kept) (offsets : List ℕ) where
  apart_before : (n : ℕ) → ((number : ℕ) → number < n → Meets kept.uses offsets (triple_at kept.triples number) → ⊥) → AreApartBefore network offsets n
  apart_before n apart k d before below overlaps = grind (arith, get_or_default, meets_from, conflict_at)

  pub none_overlaps : ((number : ℕ) → number < length kept.triples → Meets kept.uses offsets (triple_at kept.triples number) → ⊥) → AreApart network offsets
  none_overlaps apart =
      let long = ap length is.triples in
      all_apart network offsets is.formed (length kept.triples) (omega arith) (apart_before (length kept.triples) apart)

  pub first_at : (number : ℕ) → number < length kept.triples → Meets kept.uses offsets (triple_at kept.triples number)
      → ((earlier : ℕ) → earlier < number → Meets kept.uses offsets (triple_at kept.triples earlier) → ⊥) → IsFirstOverlap network offsets (triple_at kept.triples number)
  first_at number below meets apart =
      let long = ap length is.triples in
      let inside : number < length (conflicts_of network) = omega arith in
      let same : get_or (conflicts_of network) number (triple_at kept.triples number) ≡ triple_at kept.triples number =
      get_or_default (conflicts_of network) number (triple_at kept.triples number) _ inside ∙ ap (λ ts. triple_at ts number) (sym is.triples) in
      first_from network offsets is.formed number (triple_at kept.triples number) inside same
      (overlaps_from network kept is offsets (triple_at kept.triples number) (conflict_at network kept is number below) meets) (apart_before number apart)

  -- where none of the raised streams' triples before a number meets, none before it does
  pub apart_unraised : (raised : List ℕ) (end n : ℕ) → end ≤ length kept.triples → OnlyRaisedOverlap kept offsets raised end → n ≤ end → All (IsApartBefore kept offsets n) raised
      → (number : ℕ) → number < n → Meets kept.uses offsets (triple_at kept.triples number) → ⊥
  apart_unraised raised end n listed known within apart number before meets =
      known network is number (omega arith)
      (record {
        left = λ has. All-contains (IsApartBefore kept offsets n) raised _ apart has number before (left_on_side (triple_at kept.triples number)) meets;
        right = λ has. All-contains (IsApartBefore kept offsets n) raised _ apart has number before (right_on_side (triple_at kept.triples number)) meets;
      })
      (overlaps_from network kept is offsets (triple_at kept.triples number) (conflict_at network kept is number (omega arith)) meets)

-- ---- what a caller knows

pub premise_from_parent : ParentsOverlapStarts
premise_from_parent network kept parent offsets raised start is below first agree other of_other number before none_raised overlaps =
    let meets = meets_from other kept of_other offsets (triple_at kept.triples number) (conflict_at other kept of_other number (omega arith)) overlaps in
    let left_begun = meets.left_begun in
    let right_begun = meets.right_begun in
    let left = agree _ none_raised.left in
    let right = agree _ none_raised.right in
    let met : Meets kept.uses parent (triple_at kept.triples number) = record { left_begun = omega (arith, ints, left_begun, left, right); right_begun = omega (arith, ints, right_begun, left, right) } in
    let conflict = conflict_at network kept is number (omega arith) in
    let long = ap length is.triples in
    let order = subst (λ ts. TripleBefore (triple_at ts number) (triple_at ts start)) (sym is.triples)
    (conflicts_ordered network number start (record { left = 0; right = 0; link = 0; lag = pos 0 }) before (omega arith)) in
    first.none_before (triple_at kept.triples number) order conflict (overlaps_from network kept is parent (triple_at kept.triples number) conflict met)
