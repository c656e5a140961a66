-- Entries of a gate control list, one more of them, and the octets that they show.
use Rattle.std.proofs.Common.{◌≡◌, ◌≢◌, ℕ, suc, ◌+◌, ◌-◌, ◌≤◌, ◌<◌, List, [], ◌∷◌, ◌++◌, length, get_or, set, Some, nat_lt, refl, sym, ap, ◌∙◌, subst, arith, inl, inr}
use Rattle.std.proofs.lemmas.List.{length-append, set-get_or}
use Rattle.std.proofs.lemmas.List.Sums.{sum_by-cons, sum_by_push}
use Rattle.std.proofs.lemmas.List.Elements.{All-nil, All-cons, All-append, All-pop}
use Rattle.std.proofs.lemmas.Bool.{cases_lt, cond-true, cond-false, lt-ltb, le-ltb}
use Rattle.std.proofs.Math.Seq.{set-append_seam, get_or-append_seam}
use Rattle.std.proofs.Math.ListN.{get_or-append}
use Rattle.tsn_model.specs.declared.GateEntry.{GateEntry}
use Rattle.tsn_model.specs.Gates.{cycle_of}
use Rattle.tsn_gate.specs.Entries.{octet_at, Appends, LastsOrNone, NeighboursDiffer}

-- ---- how long entries last

pub cycle_of-nil : cycle_of [] ≡ 0
unfolding cycle_of
cycle_of-nil = refl

pub cycle_of-cons : (entry : GateEntry) (entries : List GateEntry) → cycle_of (entry ∷ entries) ≡ entry.interval + cycle_of entries
unfolding cycle_of
cycle_of-cons entry entries = sum_by-cons (λ (e : GateEntry). e.interval) entry entries

pub cycle_of-push : (entries : List GateEntry) (entry : GateEntry) → cycle_of (entries ++ entry ∷ []) ≡ cycle_of entries + entry.interval
unfolding cycle_of
cycle_of-push entries entry = sum_by_push (λ (e : GateEntry). e.interval) entries entry

-- ---- which octet stands when

pub octet_at-first : (entry : GateEntry) (entries : List GateEntry) (t : ℕ) → t < entry.interval → octet_at (entry ∷ entries) t ≡ entry.octet
unfolding octet_at
octet_at-first entry entries t here = cond-true (nat_lt t entry.interval) entry.octet (octet_at entries (t - entry.interval)) (lt-ltb t entry.interval here)

pub octet_at-later : (entry : GateEntry) (entries : List GateEntry) (t : ℕ) → entry.interval ≤ t → octet_at (entry ∷ entries) t ≡ octet_at entries (t - entry.interval)
unfolding octet_at
octet_at-later entry entries t past = cond-false (nat_lt t entry.interval) entry.octet (octet_at entries (t - entry.interval)) (le-ltb t entry.interval past)

pub octet_at-append_left : (xs ys : List GateEntry) (t : ℕ) → t < cycle_of xs → octet_at (xs ++ ys) t ≡ octet_at xs t
octet_at-append_left [] ys t below = absurd (omega (arith, cycle_of-nil))
octet_at-append_left (x ∷ xs) ys t below = elim (cases_lt t x.interval) [
  | inl here ↦ octet_at-first x (xs ++ ys) t here ∙ sym (octet_at-first x xs t here)
  | inr past ↦
      let rest : t - x.interval < cycle_of xs = omega (arith, cycle_of-cons x xs) in
      octet_at-later x (xs ++ ys) t past ∙ (octet_at-append_left xs ys (t - x.interval) rest ∙ sym (octet_at-later x xs t past))
]

-- t is an instant of the entry after xs
pub octet_at-push : (xs : List GateEntry) (entry : GateEntry) (ys : List GateEntry) (t : ℕ) → cycle_of xs ≤ t → t < cycle_of xs + entry.interval → octet_at (xs ++ entry ∷ ys) t ≡ entry.octet
octet_at-push [] entry ys t low high = octet_at-first entry ys t (omega (arith, cycle_of-nil))
octet_at-push (x ∷ xs) entry ys t low high =
    let whole = cycle_of-cons x xs in
    octet_at-later x (xs ++ entry ∷ ys) t (omega arith) ∙ octet_at-push xs entry ys (t - x.interval) (omega arith) (omega arith)

-- ---- neighbours

pub NeighboursDiffer-nil : NeighboursDiffer []
NeighboursDiffer-nil = λ k d below. absurd (omega arith)

pub NeighboursDiffer-push : (xs : List GateEntry) (entry : GateEntry) → NeighboursDiffer xs → ((d : GateEntry) → 0 < length xs → (get_or xs (length xs - 1) d).octet ≢ entry.octet) → NeighboursDiffer (xs ++ entry ∷ [])
NeighboursDiffer-push xs entry differ last k d below = grind (arith, length-append, get_or-append, get_or-append_seam)

-- all but the last entry, and that it differs from its neighbour
pub NeighboursDiffer-front : (xs : List GateEntry) (entry : GateEntry) → NeighboursDiffer (xs ++ entry ∷ []) → NeighboursDiffer xs
NeighboursDiffer-front xs entry differ k d below = grind (arith, length-append, get_or-append)

pub NeighboursDiffer-last : (xs : List GateEntry) (entry : GateEntry) → NeighboursDiffer (xs ++ entry ∷ []) → (d : GateEntry) → 0 < length xs → (get_or xs (length xs - 1) d).octet ≢ entry.octet
NeighboursDiffer-last xs entry differ d some = grind (arith, length-append, get_or-append, get_or-append_seam)

-- ---- one more entry

abbrev IsLong : ℕ → GateEntry → Type 0
IsLong least entry = least ≤ entry.interval

longer_long : (least : ℕ) (entry : GateEntry) (interval : ℕ) → IsLong least entry → IsLong least (record { interval = entry.interval + interval; octet = entry.octet })
longer_long least entry interval lasts = omega arith

pub Appends-push : (old : List GateEntry) (entry : GateEntry) → 1 ≤ entry.interval → ((d : GateEntry) → 0 < length old → (get_or old (length old - 1) d).octet ≢ entry.octet) → Appends old (old ++ entry ∷ []) entry.interval entry.octet
Appends-push old entry lasts other = record {
  whole = cycle_of-push old entry;
  before = λ t below. octet_at-append_left old (entry ∷ []) t below;
  shown = λ t low high. octet_at-push old entry [] t low high;
  positive = λ all. All-append (λ (e : GateEntry). 1 ≤ e.interval) old (entry ∷ []) all (All-cons (λ (e : GateEntry). 1 ≤ e.interval) entry [] lasts (All-nil (λ (e : GateEntry). 1 ≤ e.interval)));
  differ = λ differ. NeighboursDiffer-push old entry differ other;
  long = λ least is all. All-append (IsLong least) old (entry ∷ []) all (All-cons (IsLong least) entry [] is (All-nil (IsLong least)));
}

-- a last entry that is lengthened
lengthened : GateEntry → ℕ → GateEntry
lengthened entry interval = record { interval = entry.interval + interval; octet = entry.octet }

Appends-lengthen_front : (front : List GateEntry) (last : GateEntry) (interval : ℕ) → Appends (front ++ last ∷ []) (front ++ lengthened last interval ∷ []) interval last.octet
unfolding lengthened
Appends-lengthen_front front last interval =
    let longer : GateEntry = record { interval = last.interval + interval; octet = last.octet } in
    let old = cycle_of-push front last in
    let new = cycle_of-push front longer in record {
      whole = omega arith;
      before = grind (arith, octet_at-append_left, octet_at-push);
      shown = λ t low high. octet_at-push front longer [] t (omega arith) (omega arith);
      positive = λ all.
          let kept = All-pop (λ (e : GateEntry). 1 ≤ e.interval) (front ++ last ∷ []) front (Some last) refl all in
          let one : 1 ≤ last.interval = kept.1 in
          All-append (λ (e : GateEntry). 1 ≤ e.interval) front (longer ∷ []) kept.0 (All-cons (λ (e : GateEntry). 1 ≤ e.interval) longer [] (omega arith) (All-nil (λ (e : GateEntry). 1 ≤ e.interval)));
      differ = λ differ. NeighboursDiffer-push front longer (NeighboursDiffer-front front last differ) (NeighboursDiffer-last front last differ);
      long = λ least is all.
          let kept = All-pop (IsLong least) (front ++ last ∷ []) front (Some last) refl all in
          All-append (IsLong least) front (longer ∷ []) kept.0 (All-cons (IsLong least) longer [] (longer_long least last interval kept.1) (All-nil (IsLong least)));
    }

-- a list that ends in x
record EndsIn {X : Type 0} (xs : List X) (x : X) : Type 0 where
  front : List X
  is : xs ≡ front ++ x ∷ []

EndsIn-cons : {X : Type 0} (y : X) (xs : List X) (x : X) → EndsIn xs x → EndsIn (y ∷ xs) x
EndsIn-cons y xs x ends = record { front = y ∷ ends.front; is = ap (λ ys. y ∷ ys) ends.is }

ends_in : {X : Type 0} (xs : List X) (x : X) → 0 < length xs → x ≡ get_or xs (length xs - 1) x → EndsIn xs x
ends_in [] x some is = absurd (omega arith)
ends_in (y ∷ []) x some is = record { front = []; is = ap (λ z. z ∷ []) (sym is) }
ends_in (y ∷ z ∷ zs) x some is =
    let one : length (y ∷ z ∷ zs) - 1 ≡ suc (length zs) = omega arith in
    let none : length (z ∷ zs) - 1 ≡ length zs = omega arith in
    let same : x ≡ get_or (z ∷ zs) (length (z ∷ zs) - 1) x = rw none (rw one at is) in
    EndsIn-cons y (z ∷ zs) x (ends_in (z ∷ zs) x (omega arith) same)

-- the last entry is written back
pub set_same : {X : Type 0} (xs : List X) (n : ℕ) (x : X) → n ≡ length xs → 0 < n → x ≡ get_or xs (n - 1) x → set xs (n - 1) x ≡ xs
set_same xs n x long some is = grind (arith, set-get_or)

-- the last entry shows the same octet
pub Appends-lengthen : (old : List GateEntry) (n : ℕ) (last : GateEntry) (interval octet : ℕ) → n ≡ length old → 0 < n → last ≡ get_or old (n - 1) last → last.octet ≡ octet
    → Appends old (set old (n - 1) (record { interval = last.interval + interval; octet = last.octet })) interval octet
unfolding lengthened
Appends-lengthen old n last interval octet long some is same =
    let ends = ends_in old last (omega arith) (is ∙ ap (λ m. get_or old (m - 1) last) long) in
    let at : n - 1 ≡ length ends.front = omega (arith, ap length ends.is, length-append ends.front (last ∷ [])) in
    let longer : GateEntry = record { interval = last.interval + interval; octet = last.octet } in
    let new : set old (n - 1) longer ≡ ends.front ++ longer ∷ [] = ap (λ m. set old m longer) at ∙ (ap (λ xs. set xs (length ends.front) longer) ends.is ∙ set-append_seam ends.front last [] longer) in
    subst (λ o. Appends old (set old (n - 1) longer) interval o) same
    (subst (λ ys. Appends old ys interval last.octet) (sym new)
    (subst (λ xs. Appends xs (ends.front ++ longer ∷ []) interval last.octet) (sym ends.is) (Appends-lengthen_front ends.front last interval)))

-- the last entry shows another octet
pub Appends-push_other : (old : List GateEntry) (n : ℕ) (last entry : GateEntry) → 1 ≤ entry.interval → n ≡ length old → 0 < n → last ≡ get_or old (n - 1) last → last.octet ≢ entry.octet → Appends old (old ++ entry ∷ []) entry.interval entry.octet
Appends-push_other old n last entry lasts long some is other =
    let ends = ends_in old last (omega arith) (is ∙ ap (λ m. get_or old (m - 1) last) long) in
    let at : length old - 1 ≡ length ends.front = omega (arith, ap length ends.is, length-append ends.front (last ∷ [])) in
    Appends-push old entry lasts
    (λ d some same. other (
    sym (ap (λ (e : GateEntry). e.octet) (ap (λ m. get_or old m d) at ∙ (ap (λ xs. get_or xs (length ends.front) d) ends.is ∙ get_or-append_seam ends.front last [] d))) ∙ same))

-- there is no entry yet
pub Appends-push_first : (old : List GateEntry) (entry : GateEntry) → 1 ≤ entry.interval → length old ≡ 0 → Appends old (old ++ entry ∷ []) entry.interval entry.octet
Appends-push_first old entry lasts none = Appends-push old entry lasts (λ d some. absurd (omega arith))

-- what stands for some time stands long enough
pub lasts_long : (least interval : ℕ) → 1 ≤ interval → LastsOrNone least interval → least ≤ interval
lasts_long least interval some (inl lasts) = lasts
lasts_long least interval some (inr none) = absurd (omega arith)

-- the last entry is no longer than all of them
pub last-le : (entries : List GateEntry) (n : ℕ) (last : GateEntry) → n ≡ length entries → 0 < n → last ≡ get_or entries (n - 1) last → last.interval ≤ cycle_of entries
last-le entries n last long some is =
    let ends = ends_in entries last (omega arith) (is ∙ ap (λ m. get_or entries (m - 1) last) long) in
    omega (arith, ap cycle_of ends.is, cycle_of-push ends.front last)
