-- What is kept of the background's time lies apart, and leaves room.
use Rattle.std.proofs.Common.{◌≡◌, ℕ, ◌+◌, ◌-◌, ◌*◌, ◌≤◌, ◌<◌, ◌⊎◌, List, [], ◌∷◌, ◌++◌, get_or, All, AllPairs, refl, sym, ap, ◌∙◌, subst, append_assoc, arith, inl, inr}
use Rattle.std.proofs.lemmas.Bool.{cases_lt, cases_eq, cond-true, cond-false, eq-eqb, ne_eqb, le-leb, lt-leb}
use Rattle.std.proofs.lemmas.List.Elements.{All-nil, All-cons}
use Rattle.std.proofs.lemmas.List.Kept.{AllPairs-cons}
use Rattle.tsn_model.specs.declared.GateEntry.{GateEntry}
use Rattle.tsn_model.specs.Gates.{cycle_of, background_octet}
use Rattle.tsn_gate.specs.declared.windows.Window.{Window}
use Rattle.tsn_gate.specs.Entries.{octet_at}
use Rattle.tsn_gate.specs.Merged.{background_times, earliest, latest, kept_times}
use Rattle.tsn_gate.specs.Widened.{Keeps}
use Rattle.tsn_gate.proofs.Entries.{cycle_of-cons, octet_at-first, octet_at-later}

-- ---- the definitions, case by case

pub background_times-nil : (start : ℕ) → background_times start [] ≡ []
unfolding background_times
background_times-nil start = refl

pub background_times-yes : (start : ℕ) (e : GateEntry) (es : List GateEntry) → e.octet ≡ 127
    → background_times start (e ∷ es) ≡ record { start = start; end = start + e.interval } ∷ background_times (start + e.interval) es
unfolding background_times
background_times-yes start e es is = grind (arith, cond-true, eq-eqb)

pub background_times-no : (start : ℕ) (e : GateEntry) (es : List GateEntry) → (e.octet ≡ 127 → ⊥)
    → background_times start (e ∷ es) ≡ background_times (start + e.interval) es
unfolding background_times
background_times-no start e es isnt = grind (arith, cond-false, ne_eqb)

pub kept_times-nil : (least cycle from : ℕ) → kept_times least cycle from [] ≡ []
unfolding kept_times
kept_times-nil least cycle from = refl

pub kept_times-yes : (least cycle from : ℕ) (time : Window) (times : List Window) → earliest least from time + least ≤ latest least cycle time
    → kept_times least cycle from (time ∷ times) ≡ record {
      start =
          earliest least from time;
      end = latest least cycle time;
    } ∷ kept_times least cycle (earliest least from time + 2 * least) times
unfolding kept_times
kept_times-yes least cycle from time times fits = grind (arith, cond-true, le-leb)

pub kept_times-no : (least cycle from : ℕ) (time : Window) (times : List Window) → latest least cycle time < earliest least from time + least
    → kept_times least cycle from (time ∷ times) ≡ kept_times least cycle from times
unfolding kept_times
kept_times-no least cycle from time times short = grind (arith, cond-false, lt-leb)

-- ---- the ends of a time that is kept

record Ends (least cycle from : ℕ) (time : Window) : Type 0 where
  first : ((time.start ≡ 0) × (earliest least from time ≡ 0)) ⊎ ((1 ≤ time.start) × (time.start ≤ earliest least from time) × (least ≤ earliest least from time) × (from ≤ earliest least from time))
  last : ((time.end ≡ cycle) × (latest least cycle time ≡ cycle)) ⊎ ((latest least cycle time ≤ time.end) × (latest least cycle time ≤ cycle - least))

ends_of : (least cycle from : ℕ) (time : Window) → Ends least cycle from time
ends_of least cycle from time = grind (arith, cond-true, eq-eqb, cond-false, ne_eqb)

module _ (least cycle : ℕ) where
  -- a time that is kept, of a list whose first entry begins at `start`
  pub record IsRoom (entries : List GateEntry) (start : ℕ) (time : Window) : Type 0 where
    pub long : time.start + least ≤ time.end
    pub at_end : (time.end ≡ cycle) ⊎ (time.end + least ≤ cycle)
    pub at_start : (time.start ≡ 0) ⊎ (least ≤ time.start)
    pub later : start ≤ time.start
    pub background : (t : ℕ) → time.start ≤ t → t < time.end → octet_at entries (t - start) ≡ background_octet

  abbrev pub IsFrom : List GateEntry → ℕ → ℕ → Window → Type 0
  IsFrom entries start from time = IsRoom entries start time × (from ≤ time.start)

  -- the second begins once the first, and what is between them, have lasted long enough
  pub record IsPastRoom (a b : Window) : Type 0 where
    pub far : a.start + 2 * least ≤ b.start
    pub past : a.end ≤ b.start

  pub record AreRooms (entries : List GateEntry) (start from : ℕ) (kept : List Window) : Type 0 where
    pub each : All (IsFrom entries start from) kept
    pub apart : AllPairs IsPastRoom kept

  no_rooms : (entries : List GateEntry) (start from : ℕ) → AreRooms entries start from []
  no_rooms entries start from = record { each = All-nil (IsFrom entries start from); apart = λ i j d order below. absurd (omega arith) }

  room_before : (e : GateEntry) (es : List GateEntry) (start : ℕ) (time : Window) → IsRoom es (start + e.interval) time → IsRoom (e ∷ es) start time
  room_before e es start time room = grind (arith, octet_at-later)

  rooms_before : (e : GateEntry) (es : List GateEntry) (start from : ℕ) (kept : List Window) → AreRooms es (start + e.interval) from kept
      → AreRooms (e ∷ es) start from kept
  rooms_before e es start from kept rooms = record {
    each = λ k d below. (room_before e es start (get_or kept k d) (rooms.each k d below).0, (rooms.each k d below).1);
    apart = rooms.apart;
  }

  -- the first entry's own time
  own_room : (e : GateEntry) (es : List GateEntry) (start from : ℕ) (time : Window) → 1 ≤ least → start + e.interval ≤ cycle
      → e.octet ≡ 127 → time ≡ record {
        start =
            start;
        end = start + e.interval;
      }
      → earliest least from time + least ≤ latest least cycle time
      → IsRoom (e ∷ es) start (record { start = earliest least from time; end = latest least cycle time })
  own_room e es start from time some within is at fits = grind (arith, ends_of, octet_at-first)

  more_rooms : (e : GateEntry) (es : List GateEntry) (start from : ℕ) (time : Window) (kept : List Window) → 1 ≤ least → start + e.interval ≤ cycle
      → (start ≡ 0 → from ≡ 0) → e.octet ≡ 127
      → time ≡ record { start = start; end = start + e.interval } → earliest least from time + least ≤ latest least cycle time
      → AreRooms es (start + e.interval) (earliest least from time + 2 * least) kept
      → AreRooms (e ∷ es) start from (record { start = earliest least from time; end = latest least cycle time } ∷ kept)
  more_rooms e es start from time kept some within zero is at fits rooms =
      let own : Window = record { start = earliest least from time; end = latest least cycle time } in
      let begins : time.start ≡ start = ap (λ (w : Window). w.start) at in
      let stops : time.end ≡ start + e.interval = ap (λ (w : Window). w.end) at in
      let ends = ends_of least cycle from time in
      let low : from ≤ earliest least from time = elim ends.first [ inl none ↦ let here = none.0 in let from_zero = zero (sym begins ∙ here) in omega arith | inr more ↦ more.3 ] in
      let high : latest least cycle time ≤ start + e.interval = elim ends.last [ inl whole ↦ let here = whole.0 in let there = whole.1 in omega arith | inr other ↦ let below = other.0 in omega arith ] in
      let behind = rooms_before e es start (earliest least from time + 2 * least) kept rooms in record {
        each = All-cons (IsFrom (e ∷ es) start from) own kept (own_room e es start from time some within is at fits, low)
            (λ k d below. ((behind.each k d below).0, (let far = (behind.each k d below).1 in omega arith)));
        apart = AllPairs-cons IsPastRoom own kept (λ k d below. (grind arith)) rooms.apart;
      }

  pub rooms_of : (entries : List GateEntry) (start from : ℕ) → 1 ≤ least → start + cycle_of entries ≡ cycle → (start ≡ 0 → from ≡ 0)
      → AreRooms entries start from (kept_times least cycle from (background_times start entries))
  rooms_of [] start from some whole zero =
      subst (AreRooms [] start from) (sym (ap (kept_times least cycle from) (background_times-nil start) ∙ kept_times-nil least cycle from))
      (no_rooms [] start from)
  rooms_of (e ∷ es) start from some whole zero =
      let lasts = cycle_of-cons e es in
      let rest : start + e.interval + cycle_of es ≡ cycle = omega arith in
      let from_zero : start + e.interval ≡ 0 → from ≡ 0 = λ none. zero (omega arith) in
      let time : Window = record { start = start; end = start + e.interval } in
      let times = background_times (start + e.interval) es in
      elim (cases_eq e.octet 127) [
        | inl is ↦ subst (λ ts. AreRooms (e ∷ es) start from (kept_times least cycle from ts)) (sym (background_times-yes start e es is))
            (elim (cases_lt (latest least cycle time) (earliest least from time + least)) [
              | inl short ↦ subst (AreRooms (e ∷ es) start from) (sym (kept_times-no least cycle from time times short))
                  (rooms_before e es start from (kept_times least cycle from times) (rooms_of es (start + e.interval) from some rest from_zero))
              | inr fits ↦ subst (AreRooms (e ∷ es) start from) (sym (kept_times-yes least cycle from time times fits))
                  (more_rooms e es start from time (kept_times least cycle (earliest least from time + 2 * least) times) some (omega arith) zero is refl fits
                  (rooms_of es (start + e.interval) (earliest least from time + 2 * least) some rest (λ none. absurd (no_time e start from some fits none))))
            ])
        | inr isnt ↦ subst (λ ts. AreRooms (e ∷ es) start from (kept_times least cycle from ts)) (sym (background_times-no start e es isnt))
            (rooms_before e es start from (kept_times least cycle from times) (rooms_of es (start + e.interval) from some rest from_zero))
      ]
    where
      no_time : (e : GateEntry) (start from : ℕ) → 1 ≤ least → earliest least from (record {
        start =
            start;
        end = start + e.interval;
      }) + least ≤ latest least cycle (record { start = start; end = start + e.interval }) → start + e.interval ≡ 0 → ⊥
      no_time e start from some fits none = grind (arith, ends_of)

-- ---- one more entry, in order

pub keeps_other : (least cycle : ℕ) (e : GateEntry) (start from : ℕ) (old : List Window) → (e.octet ≡ 127 → ⊥)
    → Keeps least cycle e start from old old from
keeps_other least cycle e start from old isnt rest = ap (λ ts. old ++ kept_times least cycle from ts) (background_times-no start e rest isnt)

pub keeps_short : (least cycle : ℕ) (e : GateEntry) (start from : ℕ) (old : List Window) → e.octet ≡ 127
    → latest least cycle (record { start = start; end = start + e.interval }) < earliest least from
    (record { start = start; end = start + e.interval }) + least → Keeps least cycle e start from old old from
keeps_short least cycle e start from old is short rest = grind (arith, background_times-yes, kept_times-no)

pub keeps_time : (least cycle : ℕ) (e : GateEntry) (start from : ℕ) (old : List Window) (time : Window) (next : ℕ) → e.octet ≡ 127
    → time.start ≡ earliest least from (record { start = start; end = start + e.interval })
    → time.end ≡ latest least cycle (record { start = start; end = start + e.interval })
    → time.start + least ≤ time.end → next ≡ time.start + 2 * least → Keeps least cycle e start from old (old ++ time ∷ []) next
keeps_time least cycle e start from old time next is begins ends fits after rest = grind (arith, background_times-yes, kept_times-yes, append_assoc)
