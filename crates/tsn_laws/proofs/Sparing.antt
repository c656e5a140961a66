-- Of each long time of the background no more is taken than the least interval at each end.
use Rattle.std.proofs.Common.{◌≡◌, ℕ, zero, suc, ◌+◌, ◌*◌, ◌≤◌, ◌<◌, List, [], ◌∷◌, length, get_or, take, refl, sym, ap, subst, arith, inl, inr}
use Rattle.std.proofs.lemmas.Bool.{cases_lt, cases_eq, cond-true, cond-false, eq-eqb, ne_eqb}
use Rattle.std.proofs.lemmas.List.{get_or_default}
use Rattle.tsn_model.specs.declared.GateEntry.{GateEntry}
use Rattle.tsn_model.specs.Gates.{cycle_of, background_octet}
use Rattle.tsn_gate.specs.declared.windows.Window.{Window}
use Rattle.tsn_gate.specs.Entries.{octet_at}
use Rattle.tsn_gate.specs.Merged.{background_times, earliest, latest, kept_times, times_kept, IsSpared, IsMergedOctet, IsWidened}
use Rattle.tsn_gate.proofs.Entries.{cycle_of-nil, cycle_of-cons}
use Rattle.tsn_gate.proofs.Playing.{cycle_of_part}
use Rattle.tsn_gate.proofs.Rooms.{background_times-yes, background_times-no, kept_times-yes, kept_times-no, AreRooms, rooms_of}

early : (least from : ℕ) (time : Window) → from ≤ time.start + least → earliest least from time ≤ time.start + least
early least from time near = grind (arith, cond-true, eq-eqb, cond-false, ne_eqb)

late : (least cycle : ℕ) (time : Window) → time.end ≤ cycle → (time.end ≤ latest least cycle time + least) × (latest least cycle time ≤ time.end)
late least cycle time within = grind (arith, cond-true, eq-eqb, cond-false, ne_eqb)

-- a time that is kept of the interval, but for `least` at each end; those behind it begin after the interval
pub record IsSparedIn (least start end : ℕ) (kept : List Window) : Type 0 where
  pub number : ℕ
  pub time : Window
  pub below : number < length kept
  pub is : get_or kept number time ≡ time
  pub begins : time.start ≤ start + least
  pub ends : end ≤ time.end + least
  pub behind : (j : ℕ) (e : Window) → number < j → j < length kept → end ≤ (get_or kept j e).start

later_spared : (least start end : ℕ) (w : Window) (kept : List Window) → IsSparedIn least start end kept → IsSparedIn least start end (w ∷ kept)
later_spared least start end w kept spared =
    let inside = spared.below in record {
      number = suc spared.number;
      time = spared.time;
      below = omega arith;
      is = spared.is;
      begins = spared.begins;
      ends = spared.ends;
      behind = λ j e order within. behind_more j e order within;
    }
  where
    behind_more : (j : ℕ) (e : Window) → suc spared.number < j → j < length (w ∷ kept) → end ≤ (get_or (w ∷ kept) j e).start
    behind_more zero e order within = absurd (omega arith)
    behind_more (suc j) e order within = spared.behind j e (omega arith) (omega arith)

first_spared : (least start end from : ℕ) (w : Window) (kept : List Window) → w.start ≤ start + least → end ≤ w.end + least
    → ((j : ℕ) (e : Window) → j < length kept → end ≤ (get_or kept j e).start)
    → IsSparedIn least start end (w ∷ kept)
first_spared least start end from w kept begins ends all_behind = grind arith
  where
    behind_first : (j : ℕ) (e : Window) → 0 < j → j < length (w ∷ kept) → end ≤ (get_or (w ∷ kept) j e).start
    behind_first zero e order within = absurd (omega arith)
    behind_first (suc j) e order within = all_behind j e (omega arith)

module _ (least cycle : ℕ) (some : 1 ≤ least) where
  pub spared_in : (entries : List GateEntry) (start from : ℕ) → start + cycle_of entries ≡ cycle → from ≤ start + least → (start ≡ 0 → from ≡ 0)
      → (k : ℕ) (d : GateEntry) → k < length entries
      → (get_or entries k d).octet ≡ 127 → 3 * least ≤ (get_or entries k d).interval
      → IsSparedIn least (start + cycle_of (take k entries)) (start + cycle_of (take k entries) + (get_or entries k d).interval)
      (kept_times least cycle from (background_times start entries))
  spared_in [] start from whole near from_zero k d below is long = absurd (omega arith)
  spared_in (e ∷ es) start from whole near from_zero zero d below is long =
      let lasts = cycle_of-cons e es in
      let none = cycle_of-nil in
      let time : Window = record { start = start; end = start + e.interval } in
      let times = background_times (start + e.interval) es in
      let begins : earliest least from time ≤ start + least = early least from time near in
      let ends = late least cycle time (omega arith) in
      let low = ends.0 in
      let fits : earliest least from time + least ≤ latest least cycle time = omega arith in
      let next = earliest least from time + 2 * least in
      let rooms : AreRooms least cycle es (start + e.interval) next (kept_times least cycle next times) = rooms_of least cycle es
      (start + e.interval) next some (omega arith) (λ empty. absurd (omega arith)) in
      let at : start ≡ start + cycle_of [] = omega arith in
      let own : Window = record { start = earliest least from time; end = latest least cycle time } in
      subst (λ ts. IsSparedIn least (start + cycle_of []) (start + cycle_of [] + e.interval) (kept_times least cycle from ts))
      (sym (background_times-yes start e es is))
      (subst (IsSparedIn least (start + cycle_of []) (start + cycle_of [] + e.interval)) (sym (kept_times-yes least cycle from time times fits))
      (subst (λ n. IsSparedIn least n (n + e.interval) (own ∷ kept_times least cycle next times)) at
      (first_spared least start (start + e.interval) from own (kept_times least cycle next times) begins low (λ j w within. (rooms.each j w within).0.later))))
  spared_in (e ∷ es) start from whole near from_zero (suc k) d below is long =
      let lasts = cycle_of-cons e es in
      let front = cycle_of-cons e (take k es) in
      let rest : start + e.interval + cycle_of es ≡ cycle = omega arith in
      let inside : k < length es = omega arith in
      let time : Window = record { start = start; end = start + e.interval } in
      let times = background_times (start + e.interval) es in
      let high = (late least cycle time (omega arith)).1 in
      let at : start + e.interval + cycle_of (take k es) ≡ start + cycle_of (e ∷ take k es) = omega arith in
      let Spared : List Window → Type 0 = λ kept. IsSparedIn least (start + cycle_of (e ∷ take k es))
      (start + cycle_of (e ∷ take k es) + (get_or es k d).interval) kept in
      let same = λ (kept : List Window)
      (spared : IsSparedIn least (start + e.interval + cycle_of (take k es)) (start + e.interval + cycle_of (take k es) + (get_or es k d).interval) kept).
      subst (λ n. IsSparedIn least n (n + (get_or es k d).interval) kept) at spared in
      elim (cases_eq e.octet 127) [
        | inl background ↦ subst (λ ts. Spared (kept_times least cycle from ts)) (sym (background_times-yes start e es background))
            (elim (cases_lt (latest least cycle time) (earliest least from time + least)) [
              | inl short ↦ subst Spared (sym (kept_times-no least cycle from time times short))
                  (same (kept_times least cycle from times) (spared_in es (start + e.interval) from rest (omega arith) (λ empty. from_zero (omega arith))
                  k d inside is long))
              | inr fits ↦
                  let next = earliest least from time + 2 * least in
                  let own : Window = record { start = earliest least from time; end = latest least cycle time } in
                  subst Spared (sym (kept_times-yes least cycle from time times fits))
                  (same (own ∷ kept_times least cycle next times)
                  (later_spared least (start + e.interval + cycle_of (take k es)) (start + e.interval + cycle_of (take k es) + (get_or es k d).interval) own
                  (kept_times least cycle next times)
                  (spared_in es (start + e.interval) next rest (omega arith) (λ empty. absurd (omega arith)) k d inside is long)))
            ])
        | inr other ↦ subst (λ ts. Spared (kept_times least cycle from ts)) (sym (background_times-no start e es other))
            (same (kept_times least cycle from times) (spared_in es (start + e.interval) from rest (omega arith) (λ empty. from_zero (omega arith))
            k d inside is long))
      ]

-- an instant of such a time is spared
spared_at : (least start end t : ℕ) (kept : List Window) (wanted : List GateEntry) → 1 ≤ least → AreRooms least (cycle_of wanted) wanted 0 0 kept
    → IsSparedIn least start end kept → start + least ≤ t → t + least < end → IsSpared least kept t
spared_at least start end t kept wanted some rooms spared low high =
    let begins = spared.begins in
    let ends = spared.ends in
    let own = ap (λ (w : Window). w.start) spared.is in record {
      inside = (spared.number, spared.time, spared.below, spared.is, (omega arith, omega arith));
      far = λ j e below ahead. elim (cases_lt spared.number j) [
        | inl later ↦ let behind = spared.behind j e later below in omega arith
        | inr earlier ↦ elim (cases_lt j spared.number) [
          | inl before ↦
              let apart = (rooms.apart j spared.number e before spared.below).far in
              let same = ap (λ (w : Window). w.start) (get_or_default kept spared.number e spared.time spared.below) in
              absurd (omega arith)
          | inr here ↦ grind (arith, get_or_default)
        ]
      ];
    }

pub wide_spared : (least : ℕ) (wanted entries : List GateEntry) → 1 ≤ least → IsWidened least wanted entries → (k : ℕ) (d : GateEntry) → k < length wanted
    → (get_or wanted k d).octet ≡ background_octet
    → 3 * least ≤ (get_or wanted k d).interval → (t : ℕ) → cycle_of (take k wanted) + least ≤ t
    → t + least < cycle_of (take k wanted) + (get_or wanted k d).interval → octet_at entries t ≡ background_octet
wide_spared least wanted entries some widened k d below is long t low high =
    let cycle = cycle_of wanted in
    let rooms = rooms_of least cycle wanted 0 0 some (omega arith) (λ _. refl) in
    let spared = spared_in least cycle some wanted 0 0 (omega arith) (omega arith) (λ _. refl) k d below is long in
    let here = spared_at least (0 + cycle_of (take k wanted)) (0 + cycle_of (take k wanted) + (get_or wanted k d).interval) t
    (times_kept least wanted) wanted some rooms spared (omega arith) (omega arith) in
    let part = cycle_of_part wanted k d below in
    octet_of (octet_at entries t) (widened.shown t (omega arith)) here
  where
    octet_of : (octet : ℕ) → IsMergedOctet least wanted (times_kept least wanted) t octet → IsSpared least (times_kept least wanted) t
        → octet ≡ background_octet
    octet_of octet (inl (spared, background)) here = background
    octet_of octet (inr (inl (taken, stays, closed))) here = absurd (taken here)
    octet_of octet (inr (inr (taken, outside, scheduled))) here = absurd (taken here)
