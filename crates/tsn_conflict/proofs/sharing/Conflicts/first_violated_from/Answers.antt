use Rattle.std.proofs.Common.{◌<◌, ℕ, Option, Some, None, inl, inr, List, length, arith}
use Rattle.std.specs.Prelude.{MatchOption}
use Rattle.std.proofs.lemmas.Bool.{cases_lt}
use Rattle.tsn_model.specs.Network.{Network}
use Rattle.tsn_model.specs.Schedule.{IsFirstOverlap, AreApart}
use Rattle.tsn_conflict.specs.Kept.{Kept, AreConflictsOf}
use Rattle.tsn_conflict.specs.Raised.{triple_at}
use Rattle.tsn_conflict.specs.Pairs.{Meets, AreApartBetween, IsNextMeeting}
use Rattle.tsn_conflict.proofs.Raised.{none_overlaps, first_at, apart_unraised}
use Rattle.tsn_conflict.proofs.sharing.Conflicts.first_violated_from.Goals as goal

-- none before the start meets: so the next meeting from it on is the first overlap
next_is_first : (network : Network) (kept : Kept) (offsets : List ℕ) (start : ℕ) → AreConflictsOf network kept
    → ((number : ℕ) → number < start → Meets kept.uses offsets (triple_at kept.triples number) → ⊥) → (found : Option ℕ)
    → MatchOption found (AreApartBetween kept offsets start (length kept.triples)) (IsNextMeeting kept offsets start)
    → MatchOption found (AreApart network offsets) (λ number. (number < length kept.triples) × IsFirstOverlap network offsets (triple_at kept.triples number))
next_is_first network kept offsets start is before None apart =
    none_overlaps network kept is offsets (λ number below meets. elim (cases_lt number start) [
      | inl earlier ↦ before number earlier meets
      | inr later ↦ apart number later below meets
    ])
next_is_first network kept offsets start is before (Some number) next = (
  next.listed,
  first_at network kept is offsets number next.listed next.meets (λ earlier below meets. elim (cases_lt earlier start) [
    | inl less ↦ before earlier less meets
    | inr past ↦ next.apart earlier past below meets
  ]),
)

pub returns-then-least-start : goal.returns-then-least-start
returns-then-least-start c =
    λ network is.
    let raised = c.raised_meeting-least in
    let below = c.if-least-start.true in
    let within = c.requires.start in
    let apart = apart_unraised network c.args.self.now is c.args.offsets.now c.args.raised.now c.args.start raised.result within c.requires.apart_before raised.ensures.at_most raised.ensures.apart in
    (omega arith, first_at network c.args.self.now is c.args.offsets.now raised.result (omega arith) (raised.ensures.meets below) apart)

pub returns : goal.returns
returns c =
    λ network is.
    let raised = c.raised_meeting-least in
    let past = c.if-least-start.false in
    let apart = apart_unraised network c.args.self.now is c.args.offsets.now c.args.raised.now c.args.start raised.result c.requires.start c.requires.apart_before raised.ensures.at_most raised.ensures.apart in
    next_is_first network c.args.self.now c.args.offsets.now c.args.start is (λ number before. apart number (omega arith)) c.meeting_from.result c.meeting_from.ensures
