-- The octet of a gate list from one change to the next.
use Rattle.std.proofs.Common.{◌≡◌, ℕ, zero, suc, inl, inr, ◌+◌, ◌-◌, ◌%◌, ◌≤◌, ◌<◌, List, [], ◌∷◌, ◌++◌, length, get_or, take, drop, refl, sym, ap, ap₂, ◌∙◌, subst, arith, add-one}
use Rattle.std.proofs.Math.Nat.{mod-add-div'}
use Rattle.std.proofs.Math.Seq.{drop-cons}
use Rattle.std.proofs.lemmas.Nat.{mod-mul-add}
use Rattle.std.specs.List.Sorted.{IsNonDecreasingBy}
use Rattle.std.proofs.lemmas.Bool.{cases_lt}
use Rattle.std.proofs.lemmas.List.{take-append-drop, take_all, get_or_default}
use Rattle.std.proofs.lemmas.List.Sorted.{IsNonDecreasingBy-from_all_adjacent}
use Rattle.std.proofs.lemmas.List.Sums.{get_or-le-sum_by}
use Rattle.tsn_model.specs.declared.GateEntry.{GateEntry}
use Rattle.tsn_model.specs.Gates.{IsOctetAt, cycle_of}
use Rattle.tsn_gate.specs.Entries.{IsGateList}
use Rattle.tsn_gate.proofs.Playing.{cycle_of_more, cycle_of_part}
use Rattle.tsn_gate.proofs.Entries.{cycle_of-cons, cycle_of-nil}
use Rattle.tsn_replay.specs.Openings.{AreEnds, IsEntryAt, OctetHas}

-- ---- there is one octet at an instant

same_entry : (xs ys : List GateEntry) (a b : GateEntry) (after rest : List GateEntry) (t : ℕ) → xs ++ a ∷ after ≡ ys ++ b ∷ rest
    → cycle_of xs ≤ t → t < cycle_of xs + a.interval → cycle_of ys ≤ t → t < cycle_of ys + b.interval → a ≡ b
same_entry [] [] a b after rest t same a_begun a_ends b_begun b_ends = cc
same_entry [] (y ∷ ys) a b after rest t same a_begun a_ends b_begun b_ends =
    let first : a ≡ y = cc in
    let long = ap (λ (e : GateEntry). e.interval) first in
    let none = cycle_of-nil in
    let some = cycle_of-cons y ys in
    absurd (omega arith)
same_entry (x ∷ xs) [] a b after rest t same a_begun a_ends b_begun b_ends =
    let first : x ≡ b = cc in
    let long = ap (λ (e : GateEntry). e.interval) first in
    let none = cycle_of-nil in
    let some = cycle_of-cons x xs in
    absurd (omega arith)
same_entry (x ∷ xs) (y ∷ ys) a b after rest t same a_begun a_ends b_begun b_ends =
    let first : x ≡ y = cc in
    let tail : xs ++ a ∷ after ≡ ys ++ b ∷ rest = cc in
    let long = ap (λ (e : GateEntry). e.interval) first in
    let one = cycle_of-cons x xs in
    let other = cycle_of-cons y ys in
    same_entry xs ys a b after rest (t - x.interval) tail (omega arith) (omega arith) (omega arith) (omega arith)

pub octet_once : (entries : List GateEntry) (t a b : ℕ) → IsOctetAt entries t a → IsOctetAt entries t b → a ≡ b
octet_once entries t a b x y = grind (arith, same_entry)

-- ---- the octet stays until its entry ends

pub cycle-pos : (entries : List GateEntry) → IsGateList entries → 0 < cycle_of entries
unfolding cycle_of
cycle-pos entries formed =
    let some = formed.some_entry in
    let first : 1 ≤ (get_or entries 0 (record { interval = 0; octet = 0 })).interval = formed.positive 0 (record { interval = 0; octet = 0 }) (omega arith) in
    let within = get_or-le-sum_by (λ (e : GateEntry). e.interval) entries 0 (record { interval = 0; octet = 0 }) (omega arith) in
    omega arith

pub cycle_none : (entries : List GateEntry) → cycle_of (take 0 entries) ≡ 0
unfolding cycle_of
cycle_none entries = refl

later_phase : (at u size : ℕ) → at ≤ u → at % size + (u - at) < size → u % size ≡ at % size + (u - at)
later_phase at u size since within = grind (arith, mod-add-div', mod-mul-add)

pub span_octet : (entries : List GateEntry) (index : ℕ) (entry : GateEntry) (at u : ℕ) → index < length entries → entry ≡ get_or entries index entry
    → cycle_of (take index entries) ≤ at % cycle_of entries → at % cycle_of entries < cycle_of (take index entries) + entry.interval
    → at ≤ u → u < at + (cycle_of (take index entries) + entry.interval - at % cycle_of entries) → IsOctetAt entries u entry.octet
span_octet entries index entry at u below is begun ends since until =
    let long = ap (λ (e : GateEntry). e.interval) is in
    let within = cycle_of_part entries index entry below in
    let phase = later_phase at u (cycle_of entries) since (omega arith) in
    record {
      before = take index entries;
      after = drop (index + 1) entries;
      entry = entry;
      split = sym (take-append-drop index entries) ∙ ap (λ rest. take index entries ++ rest) (drop-cons entries index entry below ∙ ap₂ (λ e rest. e ∷ rest) (sym is) (ap (λ n. drop n entries) (sym (add-one index))));
      begun = omega arith;
      not_ended = omega arith;
      octet_is = refl;
    }

-- ---- the entry at an instant

pub ends_rise : (entries : List GateEntry) (ends : List ℕ) → AreEnds entries ends → IsNonDecreasingBy (λ (end : ℕ). end) ends
ends_rise entries ends are = IsNonDecreasingBy-from_all_adjacent (λ (end : ℕ). end) ends
    (λ k d below.
    let here : get_or ends k d ≡ cycle_of (take (k + 1) entries) = get_or_default ends k d 0 (omega arith) ∙ are.each k (omega arith) in
    let next : get_or ends (k + 1) d ≡ cycle_of (take (k + 1 + 1) entries) = get_or_default ends (k + 1) d 0 (omega arith) ∙ are.each (k + 1) (omega arith) in
    let more = cycle_of_more entries (k + 1) (record { interval = 0; octet = 0 }) (omega arith) in
    omega arith)

-- the entry is the first that ends later
pub entry_from_ends : (entries : List GateEntry) (ends : List ℕ) (phase index : ℕ) → AreEnds entries ends → phase < cycle_of entries → index ≤ length ends
    → ((k : ℕ) → k < index → get_or ends k 0 ≤ phase) → (index < length ends → phase < get_or ends index 0) → IsEntryAt entries phase index
entry_from_ends entries ends phase zero are below upto passed later =
    let none = cycle_none entries in
    let some : 0 < length entries = elim (cases_lt 0 (length entries)) [
      | inl some ↦ some
      | inr empty ↦ let whole = take_all 0 entries empty in let all : cycle_of (take 0 entries) ≡ cycle_of entries = ap cycle_of whole in absurd (omega arith)
    ] in
    let counted = are.count in
    let after = later (omega arith) in
    let first = are.each 0 some in
    record { within = some; begun = omega arith; not_ended = omega arith }
entry_from_ends entries ends phase (suc before) are below upto passed later =
    let counted = are.count in
    let last = passed before (omega arith) in
    let value = are.each before (omega arith) in
    let one : cycle_of (take (before + 1) entries) ≡ cycle_of (take (suc before) entries) = ap (λ n. cycle_of (take n entries)) (add-one before) in
    grind (arith, take_all)

-- ---- openings

-- an octet without the property is the octet there, so nothing has it there
pub closed_at : (entries : List GateEntry) (t octet : ℕ) (P : ℕ → Type 0) → IsOctetAt entries t octet → ¬ P octet → ¬ OctetHas entries t P
closed_at entries t octet P at closed open' = closed (subst P (octet_once entries t open'.octet octet open'.at at) open'.has)

pub open_at : (entries : List GateEntry) (t octet : ℕ) (P : ℕ → Type 0) → IsOctetAt entries t octet → P octet → OctetHas entries t P
open_at entries t octet P at has = record { octet = octet; at = at; has = has }
