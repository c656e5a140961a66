use Rattle.std.proofs.lemmas.Result.{IfOk-weaker, err_from_is_err_and}
use Rattle.std.specs.Prelude.{Option, option_copied}
use Rattle.std.proofs.Common.{arith}
use Rattle.std.proofs.lemmas.Grind.{common_steps}
use Rattle.tsn_diff.specs.Offsets.{LeastOffsets}
use Rattle.tsn_conflict.specs.declared.outcome.Look.{Look}
use Rattle.tsn_conflict.specs.Outcome.{outcome_of}
use Rattle.tsn_branch.proofs.Rights.{HasProof-from, SplitsUndecided-from, SplitsAmong-from, PrunesFrom-from, TiesWith-from}
use Rattle.tsn_branch.proofs.look_from.Goals as goal

pub returns-clause-first_case : goal.returns-clause-first_case
returns-clause-first_case c = c.look_with-found.ensures.first_case

pub returns-clause-proof : goal.returns-clause-proof
returns-clause-proof c =
    IfOk-weaker c.look_with-found.result _ _ (λ (found : Look × Option LeastOffsets). HasProof-from c.args.timing.now c.args.node.now c.args.target (option_copied c.args.best) (outcome_of found.0)) (returns-clause-first_case c)

pub returns-clause-undecided : goal.returns-clause-undecided
returns-clause-undecided c =
    IfOk-weaker c.look_with-found.result _ _ (λ (found : Look × Option LeastOffsets). SplitsUndecided-from c.args.timing.now c.args.node.now c.args.target (option_copied c.args.best) (outcome_of found.0)) (returns-clause-first_case c)

pub returns-clause-met : goal.returns-clause-met
returns-clause-met c =
    IfOk-weaker c.look_with-found.result _ _ (λ (found : Look × Option LeastOffsets). PrunesFrom-from c.args.timing.now c.args.node.now c.args.target (option_copied c.args.best) (outcome_of found.0)) (returns-clause-first_case c)

pub returns-clause-ties : goal.returns-clause-ties
returns-clause-ties c =
    IfOk-weaker c.look_with-found.result _ _ (λ (found : Look × Option LeastOffsets). TiesWith-from c.args.timing.now c.args.node.now c.args.target (option_copied c.args.best) c.requires.best (outcome_of found.0)) (returns-clause-first_case c)

pub returns-clause-among : goal.returns-clause-among
returns-clause-among c =
    let conflicts = c.requires.conflicts in
    IfOk-weaker c.look_with-found.result _ _ (λ (found : Look × Option LeastOffsets). SplitsAmong-from c.args.timing.now c.args.node.now c.args.conflicts.now.triples conflicts.formed conflicts.triples (outcome_of found.0)) (returns-clause-undecided c)

pub look_with-found-requires-clause-fits : goal.look_with-found-requires-clause-fits
look_with-found-requires-clause-fits c = grind (arith, common_steps) steps 2000000

pub look_with-found-requires-clause-parent : goal.look_with-found-requires-clause-parent
look_with-found-requires-clause-parent c = grind (arith, common_steps) steps 2000000

pub returns-in_err-loads-clause-first_case : goal.returns-in_err-loads-clause-first_case
returns-in_err-loads-clause-first_case c =
    let p = err_from_is_err_and c.from_residual.result c.from_residual.ensures.1 in
    rw p.1 tt

pub returns-in_err-loads-clause-proof : goal.returns-in_err-loads-clause-proof
returns-in_err-loads-clause-proof c =
    let p = err_from_is_err_and c.from_residual.result c.from_residual.ensures.1 in
    rw p.1 tt

pub returns-in_err-loads-clause-undecided : goal.returns-in_err-loads-clause-undecided
returns-in_err-loads-clause-undecided c =
    let p = err_from_is_err_and c.from_residual.result c.from_residual.ensures.1 in
    rw p.1 tt

pub returns-in_err-loads-clause-among : goal.returns-in_err-loads-clause-among
returns-in_err-loads-clause-among c =
    let p = err_from_is_err_and c.from_residual.result c.from_residual.ensures.1 in
    rw p.1 tt

pub returns-in_err-loads-clause-met : goal.returns-in_err-loads-clause-met
returns-in_err-loads-clause-met c =
    let p = err_from_is_err_and c.from_residual.result c.from_residual.ensures.1 in
    rw p.1 tt

pub returns-in_err-loads-clause-ties : goal.returns-in_err-loads-clause-ties
returns-in_err-loads-clause-ties c =
    let p = err_from_is_err_and c.from_residual.result c.from_residual.ensures.1 in
    rw p.1 tt

pub returns-in_err-loads-clause-least : goal.returns-in_err-loads-clause-least
returns-in_err-loads-clause-least c =
    let p = err_from_is_err_and c.from_residual.result c.from_residual.ensures.1 in
    rw p.1 tt
