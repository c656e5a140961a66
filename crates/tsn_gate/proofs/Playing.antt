-- Which entry of a list stands at an instant.
use Rattle.std.proofs.Common.{◌≡◌, ℕ, ◌+◌, ◌-◌, ◌≤◌, ◌<◌, ◌%◌, List, [], ◌∷◌, ◌++◌, length, get_or, take, drop, refl, ap, ◌∙◌, arith, add-one, drop-cons, inl, inr}
use Rattle.std.proofs.lemmas.List.{take-append-drop, get_or_default}
use Rattle.std.proofs.lemmas.Bool.{cases_lt}
use Rattle.std.proofs.lemmas.List.Elements.{All-head}
use Rattle.std.proofs.lemmas.List.Sums.{sum_by_more, sum_by_more_le}
use Rattle.std.proofs.Math.Nat.{mod-eq_of_lt, mod-lt}
use Rattle.tsn_model.specs.declared.GateEntry.{GateEntry}
use Rattle.tsn_model.specs.Gates.{cycle_of, IsOctetAt}
use Rattle.tsn_gate.specs.Entries.{octet_at, AllPositive}
use Rattle.tsn_gate.proofs.Entries.{cycle_of-nil, cycle_of-cons, octet_at-push}

pub cycle_of-pos : (entries : List GateEntry) → 0 < length entries → AllPositive entries → 1 ≤ cycle_of entries
cycle_of-pos [] some positive = absurd (omega arith)
cycle_of-pos (entry ∷ entries) some positive = grind (arith, All-head, cycle_of-cons)

-- how long the entries up to i and entry i last
pub cycle_of_more : (entries : List GateEntry) (i : ℕ) (d : GateEntry) → i < length entries → cycle_of (take (i + 1) entries) ≡ cycle_of (take i entries) + (get_or entries i d).interval
unfolding cycle_of
cycle_of_more entries i d inside = sum_by_more (λ (e : GateEntry). e.interval) entries i d inside

-- they last no longer than all
pub cycle_of_part : (entries : List GateEntry) (i : ℕ) (d : GateEntry) → i < length entries → cycle_of (take i entries) + (get_or entries i d).interval ≤ cycle_of entries
unfolding cycle_of
cycle_of_part entries i d inside = sum_by_more_le (λ (e : GateEntry). e.interval) entries i d inside

-- the list around entry i
split_at : (entries : List GateEntry) (i : ℕ) (entry : GateEntry) → i < length entries → entry ≡ get_or entries i entry → entries ≡ take i entries ++ entry ∷ drop (i + 1) entries
split_at entries i entry inside is = grind (arith, add-one, drop-cons, take-append-drop)

-- entry i's octet at its instants
pub octet_at-entry : (entries : List GateEntry) (i : ℕ) (d : GateEntry) (t : ℕ) → i < length entries → cycle_of (take i entries) ≤ t → t < cycle_of (take i entries) + (get_or entries i d).interval
    → octet_at entries t ≡ (get_or entries i d).octet
octet_at-entry entries i d t inside low high =
    let entry = get_or entries i d in
    ap (λ xs. octet_at xs t) (split_at entries i entry inside (get_or_default entries i d entry inside)) ∙ octet_at-push (take i entries) entry (drop (i + 1) entries) t low high

-- entry i stands at instant t
pub IsOctetAt-entry : (entries : List GateEntry) (t i left : ℕ) (d : GateEntry) → i < length entries → cycle_of (take i entries) + left ≡ t % cycle_of entries → left < (get_or entries i d).interval
    → IsOctetAt entries t (get_or entries i d).octet
IsOctetAt-entry entries t i left d inside at below = record {
  before = take i entries;
  after = drop (i + 1) entries;
  entry = get_or entries i d;
  split = split_at entries i (get_or entries i d) inside (get_or_default entries i d (get_or entries i d) inside);
  begun = omega arith;
  not_ended = omega arith;
  octet_is = refl;
}

-- the octet of the entry that stands at an instant of the cycle
pub octet_at-is : (entries : List GateEntry) (cycle t octet : ℕ) → cycle_of entries ≡ cycle → t < cycle → IsOctetAt entries t octet → octet_at entries t ≡ octet
octet_at-is entries cycle t octet whole below at = grind (arith, mod-eq_of_lt, octet_at-push)

-- the entry that stands at instant t of the list
record Found (entries : List GateEntry) (t : ℕ) : Type 0 where
  before : List GateEntry
  after : List GateEntry
  entry : GateEntry
  split : entries ≡ before ++ entry ∷ after
  begun : cycle_of before ≤ t
  not_ended : t < cycle_of before + entry.interval

find : (entries : List GateEntry) (t : ℕ) → t < cycle_of entries → Found entries t
find [] t below = absurd (omega (arith, cycle_of-nil))
find (entry ∷ entries) t below = elim (cases_lt t entry.interval) [
  | inl here ↦ record { before = []; after = entries; entry = entry; split = refl; begun = omega (arith, cycle_of-nil); not_ended = omega (arith, cycle_of-nil) }
  | inr past ↦ found_later entry entries t past (find entries (t - entry.interval) (omega (arith, cycle_of-cons entry entries)))
] where
  found_later : (entry : GateEntry) (entries : List GateEntry) (t : ℕ) → entry.interval ≤ t → Found entries (t - entry.interval) → Found (entry ∷ entries) t
  found_later entry entries t past found =
      let begun = found.begun in
      let not_ended = found.not_ended in
      let whole = cycle_of-cons entry found.before in grind arith

-- at each instant some octet stands
pub octet_exists : (entries : List GateEntry) (t : ℕ) → 1 ≤ cycle_of entries → (octet : ℕ) × IsOctetAt entries t octet
octet_exists entries t some =
    let found = find entries (t % cycle_of entries) (mod-lt t some) in
    (found.entry.octet, record { before = found.before; after = found.after; entry = found.entry; split = found.split; begun = found.begun; not_ended = found.not_ended; octet_is = refl })

-- the octet depends on the instant of the cycle alone
pub IsOctetAt-mod : (entries : List GateEntry) (t octet : ℕ) → 1 ≤ cycle_of entries → IsOctetAt entries t octet → IsOctetAt entries (t % cycle_of entries) octet
IsOctetAt-mod entries t octet some at = grind (arith, mod-eq_of_lt, mod-lt)
