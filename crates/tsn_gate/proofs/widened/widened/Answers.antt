-- proofs/widened/widened/Answers.antt
use Rattle.std.proofs.Common.{◌≡◌, ℕ, ◌+◌, ◌-◌, ◌<◌, List, length, get_or, refl, sym, ap, ◌∙◌, subst, arith}
use Rattle.std.proofs.lemmas.List.{get_or_default}
use Rattle.tsn_model.specs.declared.GateEntry.{GateEntry}
use Rattle.tsn_model.specs.Gates.{cycle_of}
use Rattle.tsn_gate.specs.declared.windows.Window.{Window}
use Rattle.tsn_gate.specs.Entries.{octet_at, AllLast, LastsOrNone, KeepsOctets, HasOctet, IsTimeline}
use Rattle.tsn_gate.specs.Merged.{IsMergedOctet}
use Rattle.tsn_gate.proofs.Widening.{rooms_kept, IsEnd, StopsAt, IsShown, shown_none, shown_more, fills_shown, fills_long, bare_long, is_bare, end_long, closes_is}
use Rattle.tsn_gate.proofs.widened.widened.Goals as goal

next_stops : (wanted : List GateEntry) (kept : List Window) (index : ℕ) (e : Window) → index < length kept → StopsAt wanted kept index (get_or kept index e).start
next_stops wanted kept index e more =
    record { next = λ d _. ap (λ (w : Window). w.start) (get_or_default kept index e d more); whole = λ past. absurd (omega arith) }

last_stops : (wanted : List GateEntry) (kept : List Window) → StopsAt wanted kept (length kept) (cycle_of wanted)
last_stops wanted kept = record { next = λ d more. absurd (omega arith); whole = λ _. refl }

pub loop-index-init : goal.loop-index-init
loop-index-init c =
    let rooms = rooms_kept c.args.least c.args.entries.now c.args.kept.now c.requires.some c.requires.kept in
    let none = shown_none c.args.least c.args.entries.now c.args.kept.now c.requires.some rooms c.new-timeline.result.entries.items
    (ap length c.new-timeline.ensures.none) in
    subst (IsShown c.args.least c.args.entries.now c.args.kept.now 0 c.new-timeline.result.entries.items) (sym c.new-timeline.ensures.end) none

pub fill-requires-clause-later : goal.fill-requires-clause-later
fill-requires-clause-later c =
    let rooms = rooms_kept c.args.least c.args.entries.now c.args.kept.now c.requires.some c.requires.kept in
    let stops = next_stops c.args.entries.now c.args.kept.now c.loop-index.index (record { start = 0; end = 0 }) c.loop-index-test.true in
    (bare_long c.args.least c.args.entries.now c.args.kept.now c.requires.some rooms
    c.loop-index.index c.loop-index.timeline.end _ 0 c.loop-index.invariant.stands stops (omega arith) (omega arith)).0

pub fill-requires-clause-whole : goal.fill-requires-clause-whole
fill-requires-clause-whole c =
    let rooms = rooms_kept c.args.least c.args.entries.now c.args.kept.now c.requires.some c.requires.kept in
    let stops = next_stops c.args.entries.now c.args.kept.now c.loop-index.index (record { start = 0; end = 0 }) c.loop-index-test.true in
    (is_bare c.args.least c.args.entries.now c.args.kept.now c.requires.some rooms
    c.loop-index.index c.loop-index.timeline.end _ c.loop-index.invariant.stands stops).high

pub extend-requires : goal.extend-requires
extend-requires c =
    let rooms = rooms_kept c.args.least c.args.entries.now c.args.kept.now c.requires.some c.requires.kept in
    let is : IsEnd c.args.least c.args.kept.now c.loop-index.index c.kept_until.result = record { below = c.loop-index-test.true; last = c.kept_until.ensures.last; inner = c.kept_until.ensures.inner } in
    let long = end_long c.args.least c.args.entries.now c.args.kept.now c.requires.some rooms c.loop-index.index c.kept_until.result is
    (record { start = 0; end = 0 }) in
    let there = c.in_ok-fill.ensures.end in
    omega arith

pub loop-index-preserved : goal.loop-index-preserved
loop-index-preserved c =
    let least = c.args.least in
    let wanted = c.args.entries.now in
    let kept = c.args.kept.now in
    let index = c.loop-index.index in
    let none : Window = record { start = 0; end = 0 } in
    let rooms = rooms_kept least wanted kept c.requires.some c.requires.kept in
    let stops = next_stops wanted kept index none c.loop-index-test.true in
    let until = (get_or kept index none).start in
    let stop = c.kept_until.result in
    let is : IsEnd least kept index stop = record { below = c.loop-index-test.true; last = c.kept_until.ensures.last; inner = c.kept_until.ensures.inner } in
    let closes_if = closes_is least wanted kept c.requires.some rooms
    index c.loop-index.timeline.end c.loop-index.invariant.stands c.goes_round-round.result c.may_close.result c.may_close.ensures c.goes_round-round.ensures in
    let old = c.loop-index.timeline.entries.items in
    let mid = c.fill.new.timeline.entries.items in
    let new = c.extend.new.self.entries.items in
    let at = c.in_ok-fill.ensures.end in
    subst (IsShown least wanted kept (index + 1) new) (sym c.in_ok-extend.ensures.end)
    (shown_more least wanted kept c.requires.some rooms index c.loop-index.timeline.end old mid c.loop-index.invariant until stops c.may_close.result closes_if
    c.in_ok-fill.ensures.before c.in_ok-fill.ensures.filled c.in_ok-fill.ensures.long new stop is
    (subst (KeepsOctets mid new) at c.in_ok-extend.ensures.before)
    (subst (λ n. HasOctet new n stop 0x7F) at c.in_ok-extend.ensures.shown)
    (subst (λ n. (bound : ℕ) → LastsOrNone bound (stop - n) → AllLast bound mid → AllLast bound new) at c.in_ok-extend.ensures.long))

pub fill-requires-2-clause-later : goal.fill-requires-2-clause-later
fill-requires-2-clause-later c =
    let rooms = rooms_kept c.args.least c.args.entries.now c.args.kept.now c.requires.some c.requires.kept in
    let all : c.loop-index.index ≡ length c.args.kept.now = omega arith in
    let stops = subst (λ n. StopsAt c.args.entries.now c.args.kept.now n (cycle_of c.args.entries.now)) (sym all)
    (last_stops c.args.entries.now c.args.kept.now) in
    let long = (bare_long c.args.least c.args.entries.now c.args.kept.now c.requires.some rooms
    c.loop-index.index c.loop-index.timeline.end (cycle_of c.args.entries.now) 0 c.loop-index.invariant.stands stops (omega arith) (omega arith)).0 in
    omega arith

pub returns : goal.returns
returns c =
    let least = c.args.least in
    let wanted = c.args.entries.now in
    let kept = c.args.kept.now in
    let rooms = rooms_kept least wanted kept c.requires.some c.requires.kept in
    let all : c.loop-index.index ≡ length kept = omega arith in
    let end = c.loop-index.timeline.end in
    let old = c.loop-index.timeline.entries.items in
    let new = c.fill-2.new.timeline.entries.items in
    let shown : IsShown least wanted kept (length kept) old end = subst (λ n. IsShown least wanted kept n old end) all c.loop-index.invariant in
    let stops : StopsAt wanted kept (length kept) c.args.cycle = subst (StopsAt wanted kept (length kept)) (sym c.requires.whole) (last_stops wanted kept) in
    let closes_if = closes_is least wanted kept c.requires.some rooms
    (length kept) end shown.stands c.goes_round-round.result c.may_close-2.result c.may_close-2.ensures c.goes_round-round.ensures in
    let octets = fills_shown least wanted kept c.requires.some rooms
    (length kept) end old new shown c.args.cycle stops c.may_close-2.result closes_if c.in_ok-fill-2.ensures.before c.in_ok-fill-2.ensures.filled c.in_ok-fill-2.ensures.long in
    let lasts = fills_long least wanted kept c.requires.some rooms
    (length kept) end old new shown c.args.cycle stops c.may_close-2.result closes_if c.in_ok-fill-2.ensures.before c.in_ok-fill-2.ensures.filled c.in_ok-fill-2.ensures.long in
    let made : IsTimeline new c.fill-2.new.timeline.end = c.fill-2.new.timeline.timeline in record {
      timeline = subst (IsTimeline new) (c.in_ok-fill-2.ensures.end ∙ c.requires.whole) made;
      shown = λ t below. subst (λ times. IsMergedOctet least wanted times t (octet_at new t)) c.requires.kept
          (octets t (subst (λ n. t < n) (sym c.requires.whole) below));
      long = lasts;
    }

pub goes_round-round-requires-clause-kept : goal.goes_round-round-requires-clause-kept
goes_round-round-requires-clause-kept c = c.requires.kept
