-- The entries of a merged list show what is kept of the background's time, and the guards that stay closed.
use Rattle.std.proofs.Common.{◌≡◌, ℕ, ◌+◌, ◌-◌, ◌≤◌, ◌<◌, ◌⊎◌, ◌↔◌, ◌==◌, min, Bool, IsTrue, List, length, get_or, refl, sym, ap, ◌∙◌, subst, arith, inl, inr}
use Rattle.std.proofs.lemmas.Bool.{cases_lt, cases_eq, eqb-true, eq-eqb}
use Rattle.std.proofs.lemmas.List.{get_or_default}
use Rattle.tsn_model.specs.declared.GateEntry.{GateEntry}
use Rattle.tsn_model.specs.Gates.{cycle_of, scheduled_octet, background_octet}
use Rattle.tsn_gate.specs.declared.windows.Window.{Window}
use Rattle.tsn_gate.specs.Windows.{InSomeWindow}
use Rattle.tsn_gate.specs.Entries.{octet_at, AllLast, LastsOrNone, KeepsOctets, HasOctet}
use Rattle.tsn_gate.specs.Merged.{IsSpared, FollowsBackground, LeavesEnough, StaysClosed, IsMergedOctet, times_kept}
use Rattle.tsn_gate.specs.Widened.{NoneScheduled, IsOpening, IsFilled}
use Rattle.tsn_gate.proofs.Rooms.{AreRooms, IsRoom, rooms_of}

-- the instant up to which time k is kept
pub record IsEnd (least : ℕ) (kept : List Window) (k end : ℕ) : Type 0 where
  pub below : k < length kept
  pub last : (d : Window) → length kept ≤ k + 1 → end ≡ (get_or kept k d).end
  pub inner : (d : Window) → k + 1 < length kept → end ≡ min (get_or kept k d).end ((get_or kept (k + 1) d).start - least)

-- after the end of time k, if any, and before that of number `count`, if any, none is
pub record StandsAt (least : ℕ) (kept : List Window) (count end : ℕ) : Type 0 where
  pub within : count ≤ length kept
  pub first : count ≡ 0 → end ≡ 0
  pub later : (k : ℕ) → count ≡ k + 1 → IsEnd least kept k end

pub record StopsAt (wanted : List GateEntry) (kept : List Window) (count until : ℕ) : Type 0 where
  pub next : (d : Window) → count < length kept → until ≡ (get_or kept count d).start
  pub whole : length kept ≤ count → until ≡ cycle_of wanted

-- the time from u on and before v, in which none is kept
pub record IsBare (least : ℕ) (wanted : List GateEntry) (kept : List Window) (u v : ℕ) : Type 0 where
  pub low : u ≤ v
  pub high : v ≤ cycle_of wanted
  pub none : (t : ℕ) → u ≤ t → t < v → ¬ IsSpared least kept t
  pub before : (u ≡ 0) ⊎ ((b : ℕ) × (b + 1 ≡ u) × IsSpared least kept b)
  pub after : (v ≡ cycle_of wanted) ⊎ IsSpared least kept v

-- when the last time ends
pub record LastsUntil (kept : List Window) (last : ℕ) : Type 0 where
  pub none : length kept ≡ 0 → last ≡ 0
  pub some_time : (e : Window) → 0 < length kept → last ≡ (get_or kept (length kept - 1) e).end

-- what is shown before the next time, the first `count` of which are over
pub record IsShown (least : ℕ) (wanted : List GateEntry) (kept : List Window) (count : ℕ) (entries : List GateEntry) (end : ℕ) : Type 0 where
  pub stands : StandsAt least kept count end
  pub shown : (t : ℕ) → t < end → IsMergedOctet least wanted kept t (octet_at entries t)
  pub long : AllLast (min least (cycle_of wanted)) entries

pub rooms_kept : (least : ℕ) (wanted : List GateEntry) (kept : List Window) → 1 ≤ least → kept ≡ times_kept least wanted
    → AreRooms least (cycle_of wanted) wanted 0 0 kept
rooms_kept least wanted kept some is =
    subst (AreRooms least (cycle_of wanted) wanted 0 0) (sym is) (rooms_of least (cycle_of wanted) wanted 0 0 some (omega arith) (λ _. refl))

module _ (least : ℕ) (wanted : List GateEntry) (kept : List Window) (some : 1 ≤ least) (rooms : AreRooms least (cycle_of wanted) wanted 0 0 kept) where
  room : (k : ℕ) (d : Window) → k < length kept → IsRoom least (cycle_of wanted) wanted 0 (get_or kept k d)
  room k d below = (rooms.each k d below).0

  start-le : (j k : ℕ) (d : Window) → j ≤ k → k < length kept → (get_or kept j d).start ≤ (get_or kept k d).start
  start-le j k d order below = elim (cases_lt j k) [
    | inl before ↦ let far = (rooms.apart j k d before below).far in omega arith
    | inr past ↦ let same : j ≡ k = omega arith in let begins = ap (λ n. (get_or kept n d).start) same in omega arith
  ]

  end-le : (j k : ℕ) (d : Window) → j ≤ k → k < length kept → (get_or kept j d).end ≤ (get_or kept k d).end
  end-le j k d order below = elim (cases_lt j k) [
    | inl before ↦ let past = (rooms.apart j k d before below).past in let long = (room k d below).long in omega arith
    | inr behind ↦ let same : j ≡ k = omega arith in let stops = ap (λ n. (get_or kept n d).end) same in omega arith
  ]

  -- what is spared is the background's
  pub spared_background : (t : ℕ) → IsSpared least kept t → octet_at wanted t ≡ background_octet
  spared_background t spared = background_of spared.inside
    where
      background_of : InSomeWindow kept t → octet_at wanted t ≡ background_octet
      background_of (k, x, below, at, (begun, not_ended)) =
          let begins = ap (λ (w : Window). w.start) at in
          let stops = ap (λ (w : Window). w.end) at in
          let same : t - 0 ≡ t = omega arith in
          subst (λ n. octet_at wanted n ≡ background_octet) same ((room k x below).background t (omega arith) (omega arith))

  module _ (k end : ℕ) (is : IsEnd least kept k end) (d : Window) where
    pub end_long : (get_or kept k d).start + least ≤ end
    end_long = grind (arith, room, d)

    end_low : end ≤ (get_or kept k d).end
    end_low =
        elim (cases_lt (k + 1) (length kept)) [ inl more ↦ let cut = is.inner d more in omega arith | inr none ↦ let whole = is.last d none in omega arith ]

    end_before : (j : ℕ) → k < j → j < length kept → end + least ≤ (get_or kept j d).start
    end_before j order below =
        let more : k + 1 < length kept = omega arith in
        let cut = is.inner d more in
        let far = (rooms.apart k (k + 1) d (omega arith) more).far in
        let rise = start-le (k + 1) j d (omega arith) below in
        omega arith

  far_from : (k end t : ℕ) → IsEnd least kept k end → (d : Window) → (get_or kept k d).start ≤ t → t < end → (j : ℕ) → j < length kept
      → t < (get_or kept j d).start → t + least < (get_or kept j d).start
  far_from k end t is d low high j below ahead = elim (cases_lt k j) [
    | inl later ↦ let apart = end_before k end is d j later below in omega arith
    | inr earlier ↦ let rise = start-le j k d earlier is.below in absurd (omega arith)
  ]

  -- a time is kept from its start to its end
  pub spared_within : (k end t : ℕ) → IsEnd least kept k end → (d : Window) → (get_or kept k d).start ≤ t → t < end → IsSpared least kept t
  spared_within k end t is d low high = record {
    inside = (k, get_or kept k d, is.below, get_or_default kept k (get_or kept k d) d is.below, (low, (let below = end_low k end is d in omega arith)));
    far = λ j e below ahead.
        let own = ap (λ (w : Window). w.start) (get_or_default kept k e d is.below) in
        far_from k end t is e (omega arith) high j below ahead;
  }

  -- ---- where none is kept

  not_spared : (count end until : ℕ) → StandsAt least kept count end → StopsAt wanted kept count until
      → (t : ℕ) → end ≤ t → t < until → ¬ IsSpared least kept t
  not_spared count end until stands stops t low high spared = not_found spared.inside
    where
      not_found : InSomeWindow kept t → ⊥
      not_found (j, x, below, at, (begun, not_ended)) =
          let begins = ap (λ (w : Window). w.start) at in
          let ends = ap (λ (w : Window). w.end) at in
          elim (cases_lt j count) [
            | inl before ↦
                let is = stands.later (count - 1) (omega arith) in
                let rise = end-le j (count - 1) x (omega arith) is.below in
                grind arith
            | inr past ↦
                let more : count < length kept = omega arith in
                let stop = stops.next x more in
                let rise = start-le count j x past below in
                omega arith
          ]

  d : Window
  d = record { start = 0; end = 0 }

  spared_before : (count end : ℕ) → StandsAt least kept count end → 1 ≤ count → (b : ℕ) × (b + 1 ≡ end) × IsSpared least kept b
  spared_before count end stands some_time =
      let is = stands.later (count - 1) (omega arith) in
      let long = end_long (count - 1) end is d in
      (end - 1, omega arith, spared_within (count - 1) end (end - 1) is d (omega arith) (omega arith))

  -- a time that is kept begins
  spared_start : (count : ℕ) → count < length kept → IsSpared least kept (get_or kept count d).start
  spared_start count more = elim (cases_lt (count + 1) (length kept)) [
    | inl inside ↦
        let end : ℕ = min (get_or kept count d).end ((get_or kept (count + 1) d).start - least) in
        let is : IsEnd least kept count end = grind (arith, get_or_default, d) in
        let long = end_long count end is d in
        spared_within count end (get_or kept count d).start is d (omega arith) (omega arith)
    | inr none ↦
        let end : ℕ = (get_or kept count d).end in
        let is : IsEnd least kept count end = grind (arith, get_or_default, d) in
        let long = end_long count end is d in
        spared_within count end (get_or kept count d).start is d (omega arith) (omega arith)
  ]

  -- how long a time lasts in which none is kept
  pub bare_long : (count end until bound : ℕ) → StandsAt least kept count end → StopsAt wanted kept count until
      → bound ≤ least → bound ≤ cycle_of wanted
      → (end ≤ until) × LastsOrNone bound (until - end)
  bare_long count end until bound stands stops small short = elim (cases_lt count (length kept)) [
    | inl more ↦
        elim (cases_eq count 0) [
          | inl none ↦ let from =
              stands.first none in (omega arith, elim (room count d more).at_start [ inl here ↦ inr (omega arith) | inr far ↦ inl (omega arith) ])
          | inr some_time ↦
              let is = stands.later (count - 1) (omega arith) in
              let apart = end_before (count - 1) end is d count (omega arith) more in
              (omega arith, inl (omega arith))
        ]
    | inr past ↦
        let stop = stops.whole past in
        elim (cases_eq count 0) [
          | inl none ↦ let from = stands.first none in (omega arith, inl (omega arith))
          | inr some_time ↦
              let is = stands.later (count - 1) (omega arith) in
              let whole = is.last d (let within = stands.within in omega arith) in
              elim (room (count - 1) d is.below).at_end [ inl here ↦ (omega arith, inr (omega arith)) | inr far ↦ (omega arith, inl (omega arith)) ]
        ]
  ]

  -- no time that is kept ends past the cycle
  pub end_within : (k : ℕ) (e : Window) → k < length kept → (get_or kept k e).end ≤ cycle_of wanted
  end_within k e below = elim (room k e below).at_end [ inl here ↦ omega arith | inr far ↦ omega arith ]

  pub is_bare : (count end until : ℕ) → StandsAt least kept count end → StopsAt wanted kept count until → IsBare least wanted kept end until
  is_bare count end until stands stops = record {
    low = (bare_long count end until 0 stands stops (omega arith) (omega arith)).0;
    high = elim (cases_lt count (length kept)) [
      | inl more ↦ let stop = stops.next d more in let long = (room count d more).long in let within = end_within count d more in omega arith
      | inr past ↦ let stop = stops.whole past in omega arith
    ];
    none = not_spared count end until stands stops;
    before = elim (cases_eq count 0) [ inl none ↦ inl (stands.first none) | inr some_time ↦ inr (spared_before count end stands (omega arith)) ];
    after = elim (cases_lt count (length kept)) [
      | inl more ↦ inr (subst (IsSpared least kept) (sym (stops.next d more)) (spared_start count more))
      | inr past ↦ inl (stops.whole past)
    ];
  }

  -- ---- a guard in it

  module _ (u v : ℕ) (bare : IsBare least wanted kept u v) (closes : Bool) (may : IsTrue closes → FollowsBackground least wanted kept u)
      (must : FollowsBackground least wanted kept u → IsTrue closes)
      (opens : ℕ) (opening : IsOpening wanted u v least closes opens) where
    stays_closed : (t : ℕ) → u ≤ t → t < opens → StaysClosed least wanted kept t
    stays_closed t low high =
        elim opening.long [
          | inl none ↦ absurd (omega arith)
          | inr long ↦ record {
            from = u;
            until = opens;
            begun = low;
            not_ended = high;
            long = long.1;
            within = omega arith;
            not_scheduled = opening.shut;
            not_spared = λ s after before. bare.none s after (omega arith);
            follows = may long.0;
            enough = enough_left long.1;
          }
        ]
      where
        enough_left : u + least ≤ opens → LeavesEnough least (cycle_of wanted) kept opens
        enough_left long = elim opening.enough [
          | inl none ↦ absurd (omega arith)
          | inr (inl all) ↦ elim bare.after [ inl whole ↦ inl (all ∙ whole) | inr spared ↦ inr (inl (subst (IsSpared least kept) (sym all) spared)) ]
          | inr (inr room) ↦ let end_of_bare = bare.high in inr (inr (omega arith, λ s after before. bare.none s (omega arith) (omega arith)))
        ]

    module _ (t : ℕ) (low : opens ≤ t) (high : t < v) (stays : StaysClosed least wanted kept t) where
      from_here : stays.from ≡ u
      from_here =
          elim (cases_lt stays.from u) [
            | inl early ↦ elim bare.before [ inl none ↦ absurd (omega arith) | inr (b, next, spared) ↦ absurd (stays.not_spared b (omega arith) (omega arith) spared) ]
            | inr late ↦ elim stays.follows [
              | inl (b, next, spared) ↦ elim (cases_lt u stays.from) [ inl later ↦ absurd (bare.none b (omega arith) (omega arith) spared) | inr here ↦ omega arith ]
              | inr (zero, others) ↦ omega arith
            ]
          ]

      until_within : stays.until ≤ v
      until_within =
          elim (cases_lt v stays.until) [
            | inl past ↦ elim bare.after [ inl whole ↦ absurd (omega arith) | inr spared ↦ absurd (stays.not_spared v (omega arith) past spared) ]
            | inr fits ↦ fits
          ]

      enough_there : (stays.until ≡ v) ⊎ (stays.until + least ≤ v)
      enough_there =
          let fits = until_within in
          elim stays.enough [
            | inl whole ↦ inl (omega arith)
            | inr (inl spared) ↦ elim (cases_lt stays.until v) [ inl inside ↦ absurd (bare.none stays.until (omega arith) inside spared) | inr all ↦ inl (omega arith) ]
            | inr (inr (room, none)) ↦ elim (cases_lt v (stays.until + least)) [
              | inl short ↦ elim bare.after [ inl whole ↦ absurd (omega arith) | inr spared ↦ absurd (none v (omega arith) short spared) ]
              | inr fits ↦ inr fits
            ]
          ]

      not_closed : ⊥
      not_closed =
          let here = from_here in
          let long : u + least ≤ stays.until = omega arith in
          let shut : NoneScheduled wanted u stays.until = subst (λ n. NoneScheduled wanted n stays.until) here stays.not_scheduled in
          let last = opening.last (must (subst (FollowsBackground least wanted kept) here stays.follows)) stays.until long until_within enough_there shut in
          omega arith

    pub bare_shown : (new : List GateEntry) → HasOctet new u opens 0 → HasOctet new opens v 0x80 → (t : ℕ) → u ≤ t → t < v
        → IsMergedOctet least wanted kept t (octet_at new t)
    bare_shown new closed scheduled t low high = elim (cases_lt t opens) [
      | inl early ↦ inr (inl (bare.none t low high, stays_closed t low early, closed t low early))
      | inr late ↦ inr (inr (bare.none t low high, not_closed t late high, scheduled t late high))
    ]

  -- ---- whether a guard at the cycle's start may stay closed

  -- no window comes after the last time
  pub follows_round : (last : ℕ) → LastsUntil kept last → NoneScheduled wanted last (cycle_of wanted) → FollowsBackground least wanted kept 0
  follows_round last lasts none = inr (
    refl,
    λ t below scheduled.
        elim (cases_lt t last) [
          | inl before ↦
              let some_kept : 0 < length kept = elim (cases_eq (length kept) 0) [ inl empty ↦ let zero = lasts.none empty in absurd (omega arith) | inr more ↦ omega arith ] in
              let k : ℕ = length kept - 1 in
              let is : IsEnd least kept (length kept - 1) last = record { below = omega arith; last = λ e _. lasts.some_time e some_kept; inner = λ e more. absurd (omega arith) } in
              let long = end_long (length kept - 1) last is d in
              let spared : IsSpared least kept (last - 1) = spared_within (length kept - 1) last (last - 1) is d (omega arith) (omega arith) in (
                last - 1,
                (grind (arith, spared_background)),
                spared,
              )
          | inr after ↦ absurd (none t after below scheduled)
        ],
  )

  -- one does
  pub not_round : (last window : ℕ) → LastsUntil kept last → last ≤ window → window < cycle_of wanted → octet_at wanted window ≡ scheduled_octet
      → ¬ FollowsBackground least wanted kept 0
  not_round last window lasts after inside scheduled (inl (b, next, spared)) = omega arith
  not_round last window lasts after inside scheduled (inr (zero, others)) =
      let found = others window inside scheduled in
      not_later found.0 found.1 found.2.inside
    where
      not_later : (later : ℕ) → window < later → InSomeWindow kept later → ⊥
      not_later later order (j, x, below, at, (begun, not_ended)) =
          let ends = ap (λ (w : Window). w.end) at in
          let rise = end-le j (length kept - 1) x (omega arith) (omega arith) in
          omega arith

  -- after a time that is kept it may
  pub follows_time : (count end : ℕ) → StandsAt least kept count end → 1 ≤ count → FollowsBackground least wanted kept end
  follows_time count end stands some_time = inl (spared_before count end stands some_time)

  pub round_is : (last window : ℕ) → LastsUntil kept last → last ≤ window → window ≤ cycle_of wanted → NoneScheduled wanted last window
      → (window < cycle_of wanted → octet_at wanted window ≡ scheduled_octet)
      → IsTrue (window == cycle_of wanted) ↔ FollowsBackground least wanted kept 0
  round_is last window lasts after within none found = grind (arith, eqb-true, follows_round, eq-eqb, not_round)

  -- whether a guard may stay closed from `end` on
  pub closes_is : (count end : ℕ) → StandsAt least kept count end → (round closes : Bool) → IsTrue closes ↔ ((1 ≤ count) ⊎ IsTrue round)
      → IsTrue round ↔ FollowsBackground least wanted kept 0
      → IsTrue closes ↔ FollowsBackground least wanted kept end
  closes_is count end stands round closes closes_if round_if = elim (cases_eq count 0) [
    | inl none ↦ grind arith
    | inr some_time ↦ (λ closed. follows_time count end stands (omega arith), λ follows. closes_if.1 (inl (omega arith)))
  ]

  -- ---- the steps

  pub shown_none : (entries : List GateEntry) → length entries ≡ 0 → IsShown least wanted kept 0 entries 0
  shown_none entries none = grind (arith, d)

  module _ (count end : ℕ) (old mid : List GateEntry) (swept : IsShown least wanted kept count old end) (until : ℕ)
      (stops : StopsAt wanted kept count until) (closes : Bool)
      (closes_if : IsTrue closes ↔ FollowsBackground least wanted kept end)
      (before : KeepsOctets old mid end) (filled : IsFilled wanted mid end until least closes)
      (long : (bound : ℕ) → bound ≤ least → LastsOrNone bound (until - end) → AllLast bound old → AllLast bound mid) where
    pub fills_shown : (t : ℕ) → t < until → IsMergedOctet least wanted kept t (octet_at mid t)
    fills_shown t below = elim (cases_lt t end) [
      | inl early ↦ subst (IsMergedOctet least wanted kept t) (sym (before t early)) (swept.shown t early)
      | inr late ↦ bare_shown end until (is_bare count end until swept.stands stops) closes closes_if.0 closes_if.1 filled.opens filled.opening mid filled.closed filled.scheduled t late below
    ]

    pub fills_long : AllLast (min least (cycle_of wanted)) mid
    fills_long = long (min least (cycle_of wanted)) (omega arith) (bare_long count end until (min least (cycle_of wanted)) swept.stands stops (omega arith) (omega arith)).1 swept.long

    -- and the time that is kept behind it
    pub shown_more : (new : List GateEntry) (stop : ℕ) → IsEnd least kept count stop → KeepsOctets mid new until → HasOctet new until stop 0x7F
        → ((bound : ℕ) → LastsOrNone bound (stop - until) → AllLast bound mid → AllLast bound new) → IsShown least wanted kept (count + 1) new stop
    shown_more new stop is kept_more shown lasts =
        let begun = end_long count stop is d in
        let after = is.below in record {
          stands = record { within = omega arith; first = λ zero. absurd (omega arith); later = λ k next. let same : count ≡ k = omega arith in subst (λ n. IsEnd least kept n stop) same is };
          shown = λ t below. elim (cases_lt t until) [
            | inl early ↦ subst (IsMergedOctet least wanted kept t) (sym (kept_more t early)) (fills_shown t early)
            | inr late ↦ inl (spared_within count stop t is d (omega arith) below, shown t late below)
          ];
          long = lasts (min least (cycle_of wanted)) (inl (omega arith)) fills_long;
        }

-- ---- from when on the scheduled class is open

module _ (entries : List GateEntry) (from until least first last : ℕ) (order : from ≤ until) (low : from ≤ first) (high : first ≤ until)
    (none : NoneScheduled entries from first)
    (found : first < until → octet_at entries first ≡ scheduled_octet) (whole : first ≡ until → last ≡ until) (cut : (first ≡ until → ⊥) → last ≡ min first (until - least)) where
  -- no guard can stay closed for longer
  no_later : (end : ℕ) → from + least ≤ end → end ≤ until → (end ≡ until) ⊎ (end + least ≤ until)
      → NoneScheduled entries from end → end ≤ last
  no_later end lasts within room shut = grind (arith, room)

  last_high : last ≤ first
  last_high = elim (cases_eq first until) [ inl all ↦ let is = whole all in omega arith | inr part ↦ let is = cut part in omega arith ]

  pub opens_late : (closes : Bool) → IsTrue closes → from ≤ last → least ≤ last - from → IsOpening entries from until least closes last
  opens_late closes may begun lasts = grind (arith, last_high, room, no_later)

  pub opens_at_once : (closes : Bool) → (IsTrue closes → from ≤ last → least ≤ last - from → ⊥) → IsOpening entries from until least closes from
  opens_at_once closes cant = grind (arith, room, no_later)
