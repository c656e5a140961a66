-- The frames of a list stay in line, by each start and by each step of time.
use Rattle.std.proofs.Common.{◌≡◌, ◌≢◌, ℕ, ◌+◌, ◌*◌, ◌≤◌, ◌<◌, ◌⊎◌, List, [], ◌∷◌, ◌++◌, map, length, get_or, Option, Some, None, All, Any, Contains, zero, suc, refl, sym, ap, ◌∙◌, subst, arith, inl, inr}
use Rattle.std.specs.List.{AllPairs}
use Rattle.std.proofs.lemmas.Bool.{cases_lt, cases_order}
use Rattle.std.proofs.lemmas.List.{get_or_default}
use Rattle.std.proofs.lemmas.List.Elements.{All-contains, All-push, All-weaker, Contains-push, Contains-push_cases, Contains-append_left, Contains-append_right}
use Rattle.tsn_model.specs.Network.{Network, IsWellFormed, link_at}
use Rattle.tsn_model.specs.Bridge.{LinkGates, BackgroundOpen, BackgroundFrame, BackgroundStart, BridgeRun, WireUse, scheduled_use, background_use, wire_uses, frame_at, IsBefore, FrameStartedBefore, IsTaken, IsHeld, IsFed}
use Rattle.tsn_model.specs.Bridge.Background.{frames}
use Rattle.tsn_model.proofs.Lists.{Contains-map, AllPairs-append}
use Rattle.tsn_model.proofs.Routes.{rate-pos}
use Rattle.tsn_replay.specs.declared.feed.Waiting.{Waiting}
use Rattle.tsn_replay.specs.Feeding.{waiting_at, FrameStarted, IsLine, IsFollowing}
use Rattle.tsn_replay.specs.Progress.{Plan, IsRunSoFar, IsListSoFar}
use Rattle.tsn_replay.proofs.Progress.{Extends, held_more}
use Rattle.tsn_replay.proofs.BackgroundStarts.{with_background}

-- ---- some element of a list

any_more : {X : Type 0} (P : X → Type 0) (xs ys : List X) → Any P xs → Any P (xs ++ ys)
any_more P xs ys (k, x, below, is, has) = let at = Contains-append_left xs ys x (k, below, is) in (at.0, x, at.1, at.2, has)

any_last : {X : Type 0} (P : X → Type 0) (xs : List X) (y : X) → P y → Any P (xs ++ y ∷ [])
any_last P xs y has = let at = Contains-push xs y in (at.0, y, at.1, at.2, has)

any_cases : {X : Type 0} (P : X → Type 0) (xs : List X) (y : X) → Any P (xs ++ y ∷ []) → Any P xs ⊎ P y
any_cases P xs y (k, x, below, is, has) = elim (Contains-push_cases xs y x (k, below, is)) [
  | inl old ↦ inl (old.0, x, old.1, old.2, has)
  | inr same ↦ inr (subst P (sym same) has)
]

-- ---- the order of a list's frames on a link

pub before_further : (list : List BackgroundFrame) (a b c : ℕ) → IsBefore list a b → IsBefore list b c → IsBefore list a c
before_further list a b c first second = record { listed = first.listed; same_link = first.same_link ∙ second.same_link; order = order first.order second.order } where
  order : (((frame_at list a).wanted < (frame_at list b).wanted) ⊎ (((frame_at list a).wanted ≡ (frame_at list b).wanted) × (a < b)))
      → (((frame_at list b).wanted < (frame_at list c).wanted) ⊎ (((frame_at list b).wanted ≡ (frame_at list c).wanted) × (b < c)))
      → ((frame_at list a).wanted < (frame_at list c).wanted) ⊎ (((frame_at list a).wanted ≡ (frame_at list c).wanted) × (a < c))
  order (inl less) (inl more) = inl (omega arith)
  order (inl less) (inr (same, later)) = inl (omega arith)
  order (inr (same, later)) (inl more) = inl (omega arith)
  order (inr (same, later)) (inr (same_too, later_too)) = inr (omega arith, omega arith)

pub not_before_itself : (list : List BackgroundFrame) (a : ℕ) → IsBefore list a a → ⊥
not_before_itself list a before = elim before.order [ inl less ↦ omega arith | inr later ↦ let less = later.1 in omega arith ]

-- of two frames of one link
pub number_cases : (list : List BackgroundFrame) (a b : ℕ) → a < length list → b < length list → (frame_at list a).link ≡ (frame_at list b).link → IsBefore list a b ⊎ (a ≡ b) ⊎ IsBefore list b a
number_cases list a b a_below b_below same = grind (arith, cases_order)

-- ---- the uses of wires by background frames

module _ (network : Network) (formed : IsWellFormed network) (plan : Plan) (gates : List LinkGates) (cycles : ℕ) (free : ℕ → ℕ) (now : ℕ) (run : BridgeRun)
    (so_far : IsRunSoFar network plan gates cycles free now run) where
  has_use : (begun : BackgroundStart) → Contains run.background begun → Contains (wire_uses network run) (background_use network begun)
  unfolding wire_uses
  has_use begun has = Contains-append_right (map (scheduled_use network) run.scheduled) (map (background_use network) run.background) (background_use network begun)
      (Contains-map (background_use network) run.background begun has)

  started_by : (begun : BackgroundStart) → Contains run.background begun → begun.time ≤ now
  unfolding background_use
  started_by begun has =
      let from = All-contains (λ (wire : WireUse). (wire.from ≤ now) × (wire.from < cycles * network.cycle)) (wire_uses network run) (background_use network begun) so_far.uses_begin (has_use begun has) in
      from.0

  -- a start on a link is before its wire is free
  started_before : (begun : BackgroundStart) → Contains run.background begun → begun.link < length network.links → begun.time < free begun.link
  unfolding background_use
  started_before begun has exists =
      let until : begun.time + (begun.octets + 20) * (link_at network begun.link).octet_time ≤ free begun.link =
      All-contains (λ (wire : WireUse). wire.until ≤ free wire.link) (wire_uses network run) (background_use network begun) so_far.uses_end (has_use begun has) in
      let rate = rate-pos network formed begun.link exists in
      omega arith

  -- what has started has so before any later instant
  by_now : (number t : ℕ) → now ≤ t → FrameStarted run number → FrameStartedBefore run number (t + 1)
  by_now number t present (k, begun, below, is, same) =
      let by = started_by begun (k, below, is) in
      (k, begun, below, is, (same, omega arith))

  module _ (list : List BackgroundFrame) (steady : IsListSoFar network gates cycles list free now run) where
    -- a number after the first of the line waits for that, or for the background's gates
    waits_in_line : (number t link : ℕ) → number < length list → (frame_at list number).link ≡ link → (frame_at list number).wanted ≤ t → now ≤ t → (FrameStartedBefore run number (t + 1) → ⊥) → (first : Option Waiting) → IsLine list run link first
        → ((waiting : Waiting) → first ≡ Some waiting → waiting.wanted ≤ t → BackgroundOpen gates link t → ⊥)
        → IsHeld network gates run link t ⊎ ((earlier : ℕ) × IsBefore list earlier number × (FrameStartedBefore run earlier (t + 1) → ⊥))
    unfolding waiting_at
    waits_in_line number t link below on wanted present never None line closed = absurd (never (by_now number t present (line number below on)))
    waits_in_line number t link below on wanted present never (Some first) (of, started, unstarted) closed =
        let first_link : (frame_at list first.number).link ≡ link = sym (ap (λ (w : Waiting). w.link) of.is) ∙ of.on in
        let first_wanted : first.wanted ≡ (frame_at list first.number).wanted = ap (λ (w : Waiting). w.wanted) of.is in
        elim (number_cases list number first.number below of.listed (on ∙ sym first_link)) [
          | inl before ↦ absurd (never (by_now number t present (started number before)))
          | inr behind ↦ elim behind [
            | inl same ↦
                let wanted_too : (frame_at list number).wanted ≡ (frame_at list first.number).wanted = ap (λ n. (frame_at list n).wanted) same in
                inl (inl (closed first refl (omega arith)))
            | inr after ↦ inr (
              first.number,
              after,
              λ begun_before.
                  let begun = begun_before.1 in
                  let has : Contains run.background begun = (begun_before.0, begun_before.2, begun_before.3) in
                  let facts = All-contains (λ (b : BackgroundStart). (b.number < length list) × (b.link ≡ (frame_at list b.number).link) × (b.octets ≡ (frame_at list b.number).octets)) run.background begun steady.listed has in
                  let number_is : begun.number ≡ first.number = begun_before.4.0 in
                  let begun_link : begun.link ≡ link = facts.1 ∙ (ap (λ n. (frame_at list n).link) number_is ∙ first_link) in
                  let itself = All-contains (λ (b : BackgroundStart). b.link ≡ link → IsBefore list b.number first.number) run.background begun unstarted has begun_link in
                  not_before_itself list first.number (subst (λ n. IsBefore list n first.number) number_is itself),
            )
          ]
        ]

    -- the time passes
    pub list_passes : (later : ℕ) → ((number t : ℕ) → number < length list → now ≤ t → t < later → t < cycles * network.cycle → free (frame_at list number).link ≤ t
        → (first : Option Waiting) × IsLine list run (frame_at list number).link first × ((waiting : Waiting) → first ≡ Some waiting → waiting.wanted ≤ t → BackgroundOpen gates (frame_at list number).link t → ⊥))
        → IsListSoFar network gates cycles list free later run
    list_passes later closed = record {
      listed = steady.listed;
      once = steady.once;
      wanted = steady.wanted;
      in_order = steady.in_order;
      waits = λ number t below wanted in_time when never. elim (cases_lt t now) [
        | inl past ↦ steady.waits number t below wanted in_time (inl past) never
        | inr present ↦ elim (cases_lt t (free (frame_at list number).link)) [
          | inl taken ↦ steady.waits number t below wanted in_time (inr taken) never
          | inr open' ↦
              let soon : t < later = elim when [ inl soon ↦ soon | inr taken ↦ absurd (omega arith) ] in
              let line = closed number t below present soon in_time open' in
              waits_in_line number t (frame_at list number).link below refl wanted present never line.0 line.1 line.2
        ]
      ];
    }

  -- a scheduled frame starts
  module _ (new : BridgeRun) (after : ℕ → ℕ) (extends : Extends network run new now) (busy : (m t : ℕ) → now ≤ t → t < after m → IsTaken network new m t) (list : List BackgroundFrame) (steady : IsListSoFar network gates cycles list free now run) where
    list_waits : ((number t : ℕ) → FrameStartedBefore run number t → FrameStartedBefore new number t) → ((number t : ℕ) → t ≤ now → FrameStartedBefore new number t → FrameStartedBefore run number t)
        → (number t : ℕ) → number < length list → (frame_at list number).wanted ≤ t → t < cycles * network.cycle → (t < now) ⊎ (t < after (frame_at list number).link) → (FrameStartedBefore new number (t + 1) → ⊥)
        → IsHeld network gates new (frame_at list number).link t ⊎ ((earlier : ℕ) × IsBefore list earlier number × (FrameStartedBefore new earlier (t + 1) → ⊥))
    list_waits more less number t below wanted in_time when never = elim (cases_lt t now) [
      | inl past ↦ elim (steady.waits number t below wanted in_time (inl past) (λ begun. never (more number (t + 1) begun))) [
        | inl held ↦ inl (held_more network gates run new now extends (frame_at list number).link t held)
        | inr (earlier, before, unstarted) ↦ inr (earlier, before, λ begun. unstarted (less earlier (t + 1) (omega arith) begun))
      ]
      | inr present ↦ grind arith
    ]

    pub list_kept : new.background ≡ run.background → IsListSoFar network gates cycles list after now new
    list_kept same = record {
      listed = subst (All (λ (begun : BackgroundStart). (begun.number < length list) × (begun.link ≡ (frame_at list begun.number).link) × (begun.octets ≡ (frame_at list begun.number).octets))) (sym same) steady.listed;
      once = subst (AllPairs (λ (a b : BackgroundStart). a.number ≢ b.number)) (sym same) steady.once;
      wanted = subst (All (λ (begun : BackgroundStart). (frame_at list begun.number).wanted ≤ begun.time)) (sym same) steady.wanted;
      in_order = subst (λ bs. All (λ (begun : BackgroundStart). (earlier : ℕ) → IsBefore list earlier begun.number → Any (λ (b : BackgroundStart). (b.number ≡ earlier) × (b.time < begun.time)) bs) bs) (sym same) steady.in_order;
      waits = list_waits (λ number t begun. subst (Any (λ (b : BackgroundStart). (b.number ≡ number) × (b.time < t))) (sym same) begun) (λ number t upto begun. subst (Any (λ (b : BackgroundStart). (b.number ≡ number) × (b.time < t))) same begun);
    }

  -- the first of a line starts
  module _ (list : List BackgroundFrame) (steady : IsListSoFar network gates cycles list free now run) (link : ℕ) (exists : link < length network.links) (waiting : Waiting) (line : IsLine list run link (Some waiting))
      (wanted : waiting.wanted ≤ now) (wire : free link ≤ now) (after : ℕ → ℕ) where
    abbrev begun : BackgroundStart
    begun = record { link = waiting.link; time = now; octets = waiting.octets; number = waiting.number }

    abbrev new : BridgeRun
    new = with_background run begun

    -- it hasn't started, and each that has on its link has before now
    unstarted : (old : BackgroundStart) → Contains run.background old → old.number ≡ waiting.number → ⊥
    unfolding waiting_at
    unstarted old has same = grind (arith, All-contains, not_before_itself)

    earlier_started : (earlier : ℕ) → IsBefore list earlier waiting.number → FrameStartedBefore new earlier now
    unfolding waiting_at
    earlier_started earlier before =
        let some = line.1 earlier before in
        let old = some.1 in
        let has : Contains run.background old = (some.0, some.2, some.3) in
        let facts = All-contains (λ (b : BackgroundStart). (b.number < length list) × (b.link ≡ (frame_at list b.number).link) × (b.octets ≡ (frame_at list b.number).octets)) run.background old steady.listed has in
        let old_link : old.link ≡ link = facts.1 ∙ (ap (λ n. (frame_at list n).link) some.4 ∙ (before.same_link ∙ (sym (ap (λ (w : Waiting). w.link) line.0.is) ∙ line.0.on))) in
        let soon = started_before old has (subst (λ m. m < length network.links) (sym old_link) exists) in
        let same_free : free old.link ≡ free link = ap free old_link in
        any_more (λ (b : BackgroundStart). (b.number ≡ earlier) × (b.time < now)) run.background (begun ∷ []) (some.0, old, some.2, some.3, (some.4, omega arith))

    pub list_sent : Extends network run new now → ((m t : ℕ) → now ≤ t → t < after m → IsTaken network new m t) → IsListSoFar network gates cycles list after now new
    unfolding waiting_at
    list_sent extends busy = record {
      listed = All-push (λ (b : BackgroundStart). (b.number < length list) × (b.link ≡ (frame_at list b.number).link) × (b.octets ≡ (frame_at list b.number).octets)) run.background begun steady.listed
          (line.0.listed, ap (λ (w : Waiting). w.link) line.0.is, ap (λ (w : Waiting). w.octets) line.0.is);
      once = AllPairs-append (λ (a b : BackgroundStart). a.number ≢ b.number) run.background (begun ∷ []) steady.once (λ i j d order below. absurd (omega arith))
          (λ k d below. λ j e j_below same. unstarted (get_or run.background k d) (k, below, refl_at k d below) (same_at k d j e j_below same));
      wanted = All-push (λ (b : BackgroundStart). (frame_at list b.number).wanted ≤ b.time) run.background begun steady.wanted (let is = ap (λ (w : Waiting). w.wanted) line.0.is in omega arith);
      in_order = All-push (λ (b : BackgroundStart). (earlier : ℕ) → IsBefore list earlier b.number → FrameStartedBefore new earlier b.time) run.background begun
          (All-weaker (λ (b : BackgroundStart). (earlier : ℕ) → IsBefore list earlier b.number → FrameStartedBefore run earlier b.time) (λ (b : BackgroundStart). (earlier : ℕ) → IsBefore list earlier b.number → FrameStartedBefore new earlier b.time)
          (λ b order earlier before. any_more (λ (c : BackgroundStart). (c.number ≡ earlier) × (c.time < b.time)) run.background (begun ∷ []) (order earlier before)) run.background steady.in_order)
          earlier_started;
      waits = list_waits new after extends busy list steady (λ number t before. any_more (λ (b : BackgroundStart). (b.number ≡ number) × (b.time < t)) run.background (begun ∷ []) before)
          (λ number t upto before. elim (any_cases (λ (b : BackgroundStart). (b.number ≡ number) × (b.time < t)) run.background begun before) [ inl old ↦ old | inr here ↦ let late = here.1 in absurd (omega arith) ]);
    } where
      refl_at : (k : ℕ) (d : BackgroundStart) → k < length run.background → get_or run.background k (get_or run.background k d) ≡ get_or run.background k d
      refl_at k d below = get_or_default run.background k (get_or run.background k d) d below

      same_at : (k : ℕ) (d : BackgroundStart) (j : ℕ) (e : BackgroundStart) → j < 1 → (get_or run.background k d).number ≡ (get_or (begun ∷ []) j e).number → (get_or run.background k d).number ≡ waiting.number
      same_at k d zero e below same = same
      same_at k d (suc j) e below same = absurd (omega arith)

    -- the lines of other links are as they were
    pub line_other : (m : ℕ) → (m ≡ link → ⊥) → (first : Option Waiting) → IsLine list run m first → IsLine list new m first
    line_other m differ None all = λ number below on. any_more (λ (b : BackgroundStart). b.number ≡ number) run.background (begun ∷ []) (all number below on)
    line_other m differ (Some first) (of, started, after_it) = (
      of,
      λ number before. any_more (λ (b : BackgroundStart). b.number ≡ number) run.background (begun ∷ []) (started number before),
      All-push (λ (b : BackgroundStart). b.link ≡ m → IsBefore list b.number first.number) run.background begun after_it (λ same. absurd (differ (sym same ∙ line.0.on))),
    )

    -- and in this one the next is first
    started_now : (number : ℕ) → IsBefore list number waiting.number ⊎ (number ≡ waiting.number) → FrameStarted new number
    started_now number (inl before) = any_more (λ (b : BackgroundStart). b.number ≡ number) run.background (begun ∷ []) (line.1 number before)
    started_now number (inr same) = any_last (λ (b : BackgroundStart). b.number ≡ number) run.background begun (sym same)

    pub line_sent : (next : Option Waiting) → IsFollowing list waiting next → IsLine list new link next
    line_sent None last = λ number below on. started_now number (last number below (on ∙ sym line.0.on))
    line_sent (Some next) (of, behind, between) = (
      record { listed = of.listed; is = of.is; on = of.on ∙ line.0.on },
      λ number before. started_now number (between number before),
      All-push (λ (b : BackgroundStart). b.link ≡ link → IsBefore list b.number next.number) run.background begun
          (All-weaker (λ (b : BackgroundStart). b.link ≡ link → IsBefore list b.number waiting.number) (λ (b : BackgroundStart). b.link ≡ link → IsBefore list b.number next.number)
          (λ b before same. before_further list b.number waiting.number next.number (before same) behind) run.background line.2)
          (λ same. behind),
    )

-- ---- the end

pub list_ends : (network : Network) (gates : List LinkGates) (cycles : ℕ) (list : List BackgroundFrame) (free : ℕ → ℕ) (run : BridgeRun) → IsListSoFar network gates cycles list free (cycles * network.cycle) run
    → IsFed network gates cycles (frames list) run
list_ends network gates cycles list free run so_far = record {
  listed = so_far.listed;
  once = so_far.once;
  wanted = so_far.wanted;
  in_order = so_far.in_order;
  waits = λ number t below wanted in_time never. so_far.waits number t below wanted in_time (inl in_time) never;
}
