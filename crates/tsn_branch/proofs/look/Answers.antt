use Rattle.std.proofs.Common.{arith}
use Rattle.std.proofs.lemmas.Grind.{common_steps}
use Rattle.std.proofs.lemmas.Result.{err_from_is_err_and}
use Rattle.tsn_branch.proofs.look.Goals as goal

pub look_from-requires-clause-parent : goal.look_from-requires-clause-parent
look_from-requires-clause-parent c = grind (arith, common_steps) steps 2000000

pub returns-in_err-look-clause-first_case : goal.returns-in_err-look-clause-first_case
returns-in_err-look-clause-first_case c =
    let p = err_from_is_err_and c.from_residual.result c.from_residual.ensures.1 in
    rw p.1 tt

pub returns-in_err-look-clause-proof : goal.returns-in_err-look-clause-proof
returns-in_err-look-clause-proof c =
    let p = err_from_is_err_and c.from_residual.result c.from_residual.ensures.1 in
    rw p.1 tt

pub returns-in_err-look-clause-undecided : goal.returns-in_err-look-clause-undecided
returns-in_err-look-clause-undecided c =
    let p = err_from_is_err_and c.from_residual.result c.from_residual.ensures.1 in
    rw p.1 tt

pub returns-in_err-look-clause-among : goal.returns-in_err-look-clause-among
returns-in_err-look-clause-among c =
    let p = err_from_is_err_and c.from_residual.result c.from_residual.ensures.1 in
    rw p.1 tt

pub returns-in_err-look-clause-met : goal.returns-in_err-look-clause-met
returns-in_err-look-clause-met c =
    let p = err_from_is_err_and c.from_residual.result c.from_residual.ensures.1 in
    rw p.1 tt

pub returns-in_err-look-clause-ties : goal.returns-in_err-look-clause-ties
returns-in_err-look-clause-ties c =
    let p = err_from_is_err_and c.from_residual.result c.from_residual.ensures.1 in
    rw p.1 tt
