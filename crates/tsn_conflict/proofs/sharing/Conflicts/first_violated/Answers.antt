use Rattle.std.proofs.Common.{◌≡◌, get_or, ap, sym, ◌∙◌, subst, zero-le}
use Rattle.std.specs.Prelude.{MatchOption}
use Rattle.std.proofs.lemmas.List.{get_or_default}
use Rattle.tsn_model.specs.Schedule.{IsFirstOverlap, AreApart}
use Rattle.tsn_conflict.specs.Kept.{Kept}
use Rattle.tsn_conflict.specs.Raised.{triple_at}
use Rattle.tsn_conflict.proofs.Raised.{none_overlaps, first_at}
use Rattle.tsn_conflict.proofs.sharing.Conflicts.first_violated.Goals as goal

pub returns-in_err-number : goal.returns-in_err-number
returns-in_err-number c =
    λ network is.
    let none = none_overlaps network c.args.self.now is c.args.offsets.now (λ number below. c.in_err-number.ensures number zero-le below) in
    subst (λ r. MatchOption r (AreApart network c.args.offsets.now) (IsFirstOverlap network c.args.offsets.now)) (sym c.from_residual.ensures) none

pub returns : goal.returns
returns c =
    λ network is.
    let kept = c.args.self.now in
    let found = c.in_ok-number.ensures in
    let first = first_at network kept is c.args.offsets.now c.in_ok-number.number found.listed found.meets (λ earlier before. found.apart earlier zero-le before) in
    let read = c.index.result.now in
    let same : read ≡ triple_at kept.triples c.in_ok-number.number =
    c.index.ensures ∙ ap (λ (k : Kept). get_or k.triples c.in_ok-number.number read) c.self.view_is ∙ get_or_default kept.triples c.in_ok-number.number read _ found.listed in
    subst (IsFirstOverlap network c.args.offsets.now) (sym same) first
