use Rattle.std.proofs.Common.{◌≤◌, All, sym, ◌∙◌, subst}
use Rattle.tsn_model.proofs.Schedules.{offsets_within}
use Rattle.tsn_answer.proofs.proving.undercut.Goals as goal

pub flowspan-flowspan-requires-clause-small : goal.flowspan-flowspan-requires-clause-small
flowspan-flowspan-requires-clause-small c =
    let same = c.deref.ensures.value ∙ sym c.deref-2.ensures.value in
    subst (All (λ offset. offset ≤ c.args.timing.now.cycle)) same
    (offsets_within c.args.timing.now c.deref.result.now (c.is_valid.ensures.0 c.if-not-is_valid.false))
