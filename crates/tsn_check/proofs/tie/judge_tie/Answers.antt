use Rattle.std.proofs.Common.{arith, sym, subst, inl, inr}
use Rattle.std.proofs.lemmas.Result.{err_from_is_err_and}
use Rattle.tsn_model.specs.Certificate.{AreChains, ShowsAfter}
use Rattle.tsn_check.specs.Turns.{decisions}
use Rattle.tsn_check.proofs.Ties.{found_chains, none_no_tie, low_no_tie, sooner_no_tie, tie_made}
use Rattle.tsn_check.proofs.tie.judge_tie.Goals as goal

pub returns-in_err-short : goal.returns-in_err-short
returns-in_err-short c proof target bounded judged =
    let p = err_from_is_err_and c.from_residual.result c.from_residual.ensures.1 in
    rw (p.1, p.2) (inl (rw c.in_err-short.was at judged))

pub returns-in_err-all_lead : goal.returns-in_err-all_lead
returns-in_err-all_lead c proof target bounded judged = grind (arith, err_from_is_err_and, found_chains)

pub returns-in_default : goal.returns-in_default
returns-in_default c proof target bounded judged = grind (arith, found_chains, none_no_tie)

pub returns-in-Some : goal.returns-in-Some
returns-in-Some c proof target bounded judged = grind (arith, low_no_tie)

pub returns-then-comes_after : goal.returns-then-comes_after
returns-then-comes_after c proof target bounded judged =
    let network = c.args.timing.now in
    let path = decisions c.args.path.now in
    let proves = rw (c.in_ok-short.was, c.in_default-short.is) at judged in
    tie_made network path proof c.args.chains.now c.args.plan.now c.in-Schedule.flowspan c.in-Schedule.offsets c.in-Schedule.is c.requires.plan bounded proves
    (subst (AreChains network path) c.list.ensures.parts c.in_ok-all_lead.ensures)
    (subst (λ cs. ShowsAfter network path cs c.in-Schedule.offsets) c.list-2.ensures.parts (subst (ShowsAfter network path c.list-2.result.now) c.list-3.ensures c.if-comes_after.ensures))

pub returns-else-comes_after : goal.returns-else-comes_after
returns-else-comes_after c proof target bounded judged =
    let network = c.args.timing.now in
    let path = decisions c.args.path.now in
    let proves = rw (c.in_ok-short.was, c.in_default-short.is) at judged in
    inr (inr (
      subst (AreChains network path) c.list.ensures.parts c.in_ok-all_lead.ensures,
      sooner_no_tie network path proof c.args.chains.now c.args.plan.now c.in-Schedule.flowspan c.in-Schedule.offsets c.in-Schedule.is c.requires.plan proves
          (λ after. c.if-comes_after.ensures (subst (ShowsAfter network path c.list-2.result.now) (sym c.list-3.ensures)
          (subst (λ cs. ShowsAfter network path cs c.in-Schedule.offsets) (sym c.list-2.ensures.parts) after))),
    ))
