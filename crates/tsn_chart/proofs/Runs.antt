-- What a run over a list's entries knows of the time up to their end.
use Rattle.std.proofs.Common.{All, ◌≡◌, ◌≢◌, ℕ, ◌+◌, ◌-◌, ◌≤◌, ◌<◌, max, List, [], ◌∷◌, ◌++◌, fold, eqb, append_assoc, refl, sym, ap, ◌∙◌, subst, arith, inl, inr, eq-eqb}
use Rattle.std.proofs.lemmas.Bool.{cases_lt, cases_eq, ne_eqb, cond-true, cond-false}
use Rattle.std.proofs.lemmas.List.Elements.{All-head, All-tail}
use Rattle.std.proofs.lemmas.List.{append-nil}
use Rattle.tsn_model.specs.declared.GateEntry.{GateEntry}
use Rattle.tsn_model.specs.Gates.{cycle_of, background_octet}
use Rattle.tsn_chart.specs.declared.rest.Run.{Run}
use Rattle.tsn_chart.specs.Rest.{go_on}
use Rattle.tsn_gate.specs.Entries.{octet_at}
use Rattle.tsn_gate.proofs.Entries.{cycle_of-nil, cycle_of-push, octet_at-append_left, octet_at-push}

-- each instant from start on and before end is open
pub record Opens (entries : List GateEntry) (start end : ℕ) : Type 0 where
  pub at : (t : ℕ) → start ≤ t → t < end → octet_at entries t ≡ background_octet

-- so long are the entries open at their end, and no longer
pub record HasCurrent (entries : List GateEntry) (current : ℕ) : Type 0 where
  pub fits : current ≤ cycle_of entries
  pub is_open : Opens entries (cycle_of entries - current) (cycle_of entries)
  pub most : (start : ℕ) → start ≤ cycle_of entries → Opens entries start (cycle_of entries) → cycle_of entries ≤ start + current

-- so long are they open somewhere, and no longer anywhere
pub record HasLongest (entries : List GateEntry) (longest : ℕ) : Type 0 where
  pub place : ℕ
  pub fits : place + longest ≤ cycle_of entries
  pub is_open : Opens entries place (place + longest)
  pub most : (start end : ℕ) → end ≤ cycle_of entries → Opens entries start end → end ≤ start + longest

pub record Tracks (entries : List GateEntry) (run : Run) : Type 0 where
  pub current : HasCurrent entries run.current
  pub longest : HasLongest entries run.longest

pub Tracks-nil : Tracks [] (record { current = 0; longest = 0 })
Tracks-nil = record {
  current = record { fits = omega arith; is_open = record { at = λ t low high. absurd (omega (arith, cycle_of-nil)) }; most = λ start below is. omega (arith, cycle_of-nil) };
  longest = record { place = 0; fits = omega arith; is_open = record { at = λ t low high. absurd (omega arith) }; most = λ start end below is. omega (arith, cycle_of-nil) };
}

-- what was open before an entry came stays so, and what is open with it was so before
Opens-more : (entries : List GateEntry) (entry : GateEntry) (start end : ℕ) → end ≤ cycle_of entries → Opens entries start end → Opens (entries ++ entry ∷ []) start end
Opens-more entries entry start end below is = record { at = λ t low high. octet_at-append_left entries (entry ∷ []) t (omega arith) ∙ is.at t low high }

Opens-front : (entries : List GateEntry) (entry : GateEntry) (start end last : ℕ) → end ≤ cycle_of entries → end ≤ last → Opens (entries ++ entry ∷ []) start last → Opens entries start end
Opens-front entries entry start end last below part is = record { at = λ t low high. sym (octet_at-append_left entries (entry ∷ []) t (omega arith)) ∙ is.at t low (omega arith) }

-- a closed entry's instants aren't open
closed_ends : (entries : List GateEntry) (entry : GateEntry) → entry.octet ≢ background_octet → (start end : ℕ) → cycle_of entries < end → end ≤ cycle_of entries + entry.interval
    → Opens (entries ++ entry ∷ []) start end → end ≤ start
closed_ends entries entry closed start end past within is = elim (cases_lt start end) [
  | inl some ↦ absurd (closed (sym (octet_at-push entries entry [] (end - 1) (omega arith) (omega arith)) ∙ is.at (end - 1) (omega arith) (omega arith)))
  | inr none ↦ none
]

closed_current : (entries : List GateEntry) (entry : GateEntry) → 1 ≤ entry.interval → entry.octet ≢ background_octet → HasCurrent (entries ++ entry ∷ []) 0
closed_current entries entry lasts closed =
    let whole = cycle_of-push entries entry in
    let end = cycle_of (entries ++ entry ∷ []) in record {
      fits = omega arith;
      is_open = record { at = λ t low high. absurd (omega arith) };
      most = λ start below is. let ends = closed_ends entries entry closed start end (omega arith) (omega arith) is in omega arith;
    }

closed_longest : (entries : List GateEntry) (entry : GateEntry) (longest : ℕ) → entry.octet ≢ background_octet → HasLongest entries longest → HasLongest (entries ++ entry ∷ []) longest
closed_longest entries entry longest closed has =
    let whole = cycle_of-push entries entry in
    let fits = has.fits in record {
      place = has.place;
      fits = omega arith;
      is_open = Opens-more entries entry has.place (has.place + longest) fits has.is_open;
      most = λ start end below is. elim (cases_lt (cycle_of entries) end) [
        | inl past ↦ let ends = closed_ends entries entry closed start end past (omega arith) is in omega arith
        | inr within ↦ has.most start end within (Opens-front entries entry start end end within (omega arith) is)
      ];
    }

open_current : (entries : List GateEntry) (entry : GateEntry) (current : ℕ) → entry.octet ≡ background_octet → HasCurrent entries current → HasCurrent (entries ++ entry ∷ []) (current + entry.interval)
open_current entries entry current opened has =
    let whole = cycle_of-push entries entry in
    let fits = has.fits in
    let end = cycle_of (entries ++ entry ∷ []) in record {
      fits = omega arith;
      is_open = record {
        at = λ t low high. elim (cases_lt t (cycle_of entries)) [
          | inl early ↦ octet_at-append_left entries (entry ∷ []) t early ∙ has.is_open.at t (omega arith) early
          | inr late ↦ octet_at-push entries entry [] t late (omega arith) ∙ opened
        ];
      };
      most = λ start below is. elim (cases_lt start (cycle_of entries)) [
        | inl early ↦ let before = has.most start (omega arith) (Opens-front entries entry start (cycle_of entries) end (omega arith) (omega arith) is) in omega arith
        | inr late ↦ omega arith
      ];
    }

-- nothing is open longer than the longest before, or up to the new end
open_most : (entries : List GateEntry) (entry : GateEntry) (current longest new : ℕ) → HasCurrent entries current → HasLongest entries longest → longest ≤ new → current + entry.interval ≤ new
    → (start end : ℕ) → end ≤ cycle_of (entries ++ entry ∷ []) → Opens (entries ++ entry ∷ []) start end → end ≤ start + new
open_most entries entry current longest new now has more most start end below is =
    let whole = cycle_of-push entries entry in
    elim (cases_lt (cycle_of entries) end) [
      | inl past ↦ elim (cases_lt start (cycle_of entries)) [
        | inl early ↦ let before = now.most start (omega arith) (Opens-front entries entry start (cycle_of entries) end (omega arith) (omega arith) is) in omega arith
        | inr late ↦ omega arith
      ]
      | inr within ↦ let before = has.most start end within (Opens-front entries entry start end end within (omega arith) is) in omega arith
    ]

open_longest : (entries : List GateEntry) (entry : GateEntry) (current longest new : ℕ) → entry.octet ≡ background_octet → HasCurrent entries current → HasLongest entries longest
    → new ≡ max longest (current + entry.interval) → HasLongest (entries ++ entry ∷ []) new
open_longest entries entry current longest new opened now has is =
    let whole = cycle_of-push entries entry in
    let fits = has.fits in
    let most = open_most entries entry current longest new now has (omega arith) (omega arith) in
    let later = open_current entries entry current opened now in
    let later_fits = later.fits in
    elim (cases_lt longest (current + entry.interval)) [
      | inl longer ↦
          let same : new ≡ current + entry.interval = omega arith in
          let end = cycle_of (entries ++ entry ∷ []) in record {
            place = end - new;
            fits = omega arith;
            is_open = record { at = λ t low high. later.is_open.at t (omega arith) (omega arith) };
            most = most;
          }
      | inr shorter ↦
          let same : new ≡ longest = omega arith in record {
            place = has.place;
            fits = omega arith;
            is_open = Opens-more entries entry has.place (has.place + new) (omega arith) (record { at = λ t low high. has.is_open.at t low (omega arith) });
            most = most;
          }
    ]

go_on-open : (run : Run) (entry : GateEntry) → entry.octet ≡ background_octet → go_on run entry ≡ record { current = run.current + entry.interval; longest = max run.longest (run.current + entry.interval) }
go_on-open run entry opened =
    cond-true (eqb entry.octet background_octet) (record { current = run.current + entry.interval; longest = max run.longest (run.current + entry.interval) }) (record { current = 0; longest = run.longest })
    (eq-eqb entry.octet background_octet opened)

go_on-closed : (run : Run) (entry : GateEntry) → entry.octet ≢ background_octet → go_on run entry ≡ record { current = 0; longest = run.longest }
go_on-closed run entry closed =
    cond-false (eqb entry.octet background_octet) (record { current = run.current + entry.interval; longest = max run.longest (run.current + entry.interval) }) (record { current = 0; longest = run.longest })
    (ne_eqb entry.octet background_octet closed)

Tracks-push : (entries : List GateEntry) (entry : GateEntry) (run : Run) → 1 ≤ entry.interval → Tracks entries run → Tracks (entries ++ entry ∷ []) (go_on run entry)
Tracks-push entries entry run lasts tracks = elim (cases_eq entry.octet background_octet) [
  | inl opened ↦ subst (λ r. Tracks (entries ++ entry ∷ []) r) (sym (go_on-open run entry opened)) (record {
    current = open_current entries entry run.current opened tracks.current;
    longest = open_longest entries entry run.current run.longest (max run.longest (run.current + entry.interval)) opened tracks.current tracks.longest refl;
  })
  | inr closed ↦ subst (λ r. Tracks (entries ++ entry ∷ []) r) (sym (go_on-closed run entry closed)) (record {
    current = closed_current entries entry lasts closed;
    longest = closed_longest entries entry run.longest closed tracks.longest;
  })
]

-- all entries of a list, behind others
pub Tracks-fold : (before entries : List GateEntry) (run : Run) → All (λ (e : GateEntry). 1 ≤ e.interval) entries → Tracks before run → Tracks (before ++ entries) (fold go_on run entries)
Tracks-fold before [] run all tracks = subst (λ xs. Tracks xs run) (sym (append-nil before)) tracks
Tracks-fold before (entry ∷ entries) run all tracks =
    subst (λ xs. Tracks xs (fold go_on (go_on run entry) entries)) (append_assoc before (entry ∷ []) entries)
    (Tracks-fold (before ++ entry ∷ []) entries (go_on run entry) (All-tail (λ (e : GateEntry). 1 ≤ e.interval) entry entries all)
    (Tracks-push before entry run (All-head (λ (e : GateEntry). 1 ≤ e.interval) entry entries all) tracks))

pub go_on-le : (run : Run) (entry : GateEntry) → (go_on run entry).current ≤ run.current + entry.interval
go_on-le run entry = elim (cases_eq entry.octet background_octet) [
  | inl opened ↦ omega (arith, ap (λ (r : Run). r.current) (go_on-open run entry opened))
  | inr closed ↦ omega (arith, ap (λ (r : Run). r.current) (go_on-closed run entry closed))
]
