use Rattle.std.proofs.Common.{List, sym, ap, ◌∙◌, subst, arith}
use Rattle.std.proofs.lemmas.Grind.{common_steps}
use Rattle.std.proofs.lemmas.Result.{err_from_is_err_and}
use Rattle.tsn_model.specs.declared.Decision.{Decision}
use Rattle.tsn_model.specs.Search.{IsAllowed}
use Rattle.tsn_book.specs.Arena.{settled_in}
use Rattle.tsn_book.specs.Ledger.{next_outcome, with_one}
use Rattle.tsn_book.proofs.ledger.Ledger.settle_here.Goals as goal

pub record-requires-clause-agrees : goal.record-requires-clause-agrees
record-requires-clause-agrees c =
    rw (c.reserve.ensures.network, c.reserve.ensures.origins, c.reserve.ensures.statuses, c.reserve.ensures.events, c.reserve.ensures.closed) c.requires.agrees

pub record-requires-clause-allowed : goal.record-requires-clause-allowed
record-requires-clause-allowed c =
    let ledger = c.args.self.now in
    rw (c.reserve.ensures.network, c.reserve.ensures.origins, c.reserve.ensures.events)
    (subst (λ (path : List Decision). IsAllowed ledger.tree.network (settled_in ledger.tree) (record { path = path; outcome = next_outcome ledger }))
    (sym c.requires.at.is) c.in_ok-admit.ensures.1)

pub returns-clause-ok : goal.returns-clause-ok
returns-clause-ok c =
    c.record.ensures.ok ∙ rw (c.reserve.ensures.network, c.reserve.ensures.origins, c.reserve.ensures.events)
    (ap (λ (path : List Decision). with_one c.args.self.now c.args.teller path (next_outcome c.args.self.now)) c.requires.at.is)

pub admit-requires-clause-at : goal.admit-requires-clause-at
admit-requires-clause-at c = grind (arith, common_steps) steps 2000000

pub admit-requires-clause-proof : goal.admit-requires-clause-proof
admit-requires-clause-proof c = grind (arith, common_steps) steps 2000000

pub admit-requires-clause-undecided : goal.admit-requires-clause-undecided
admit-requires-clause-undecided c = grind (arith, common_steps) steps 2000000

pub returns-in_err-admit-clause-ok : goal.returns-in_err-admit-clause-ok
returns-in_err-admit-clause-ok c =
    let p = err_from_is_err_and c.from_residual.result c.from_residual.ensures.1 in
    rw p.1 tt

pub returns-in_err-admit-clause-waiting : goal.returns-in_err-admit-clause-waiting
returns-in_err-admit-clause-waiting c =
    let p = err_from_is_err_and c.from_residual.result c.from_residual.ensures.1 in
    rw p.1 tt

pub returns-in_err-admit-clause-fault : goal.returns-in_err-admit-clause-fault
returns-in_err-admit-clause-fault c =
    let p = err_from_is_err_and c.from_residual.result c.from_residual.ensures.1 in
    rw (p.1, p.2) c.in_err-admit.ensures
