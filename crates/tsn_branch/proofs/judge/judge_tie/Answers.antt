use Rattle.std.proofs.Common.{List, ℕ, subst, arith}
use Rattle.std.proofs.lemmas.Grind.{common_steps}
use Rattle.std.proofs.lemmas.Result.{err_from_is_err_and}
use Rattle.tsn_model.specs.Schedule.{IsNotAfter}
use Rattle.tsn_cert.specs.Leaf.{bound_leaf}
use Rattle.tsn_branch.specs.Look.{ShowsUpto, IsPruning}
use Rattle.tsn_branch.proofs.Positions.{of_some}
use Rattle.tsn_branch.proofs.Tied.{tie_from}
use Rattle.tsn_branch.proofs.judge.judge_tie.Goals as goal

pub returns-in-Ok-clause-some : goal.returns-in-Ok-clause-some
returns-in-Ok-clause-some c =
    let network = c.args.tables.timing.now in
    let lowest = c.args.least.now in
    let best = c.args.best.now in
    let chains = c.in-Some.chains in
    let found = of_some _ _ c.in_ok-chains.field-0 chains c.in-Some.is c.in_ok-chains.ensures in
    let (fit, last, end) = c.requires.ends in (
      tt,
      λ path target solves below unloaded.
          tie_from network path lowest solves target best chains
          (record {
            fit = fit;
            below = below;
            unloaded = unloaded;
            not_before = subst (λ (others : List ℕ). IsNotAfter others lowest.offsets) c.valid.ensures found.0;
            shown = subst (λ (others : List ℕ). ShowsUpto network path lowest.offsets others chains) c.valid.ensures (found.1 path solves);
          })
          c.in-Ok.bound (bound_leaf c.in-Ok.leaf)
          (subst (λ (limit : ℕ). IsPruning network path limit c.in-Ok.bound (bound_leaf c.in-Ok.leaf)) c.flowspan-2.ensures (c.in-Ok.ensures path solves)),
    )

pub tie_chains-requires-clause-formed : goal.tie_chains-requires-clause-formed
tie_chains-requires-clause-formed c = grind (arith, common_steps) steps 2000000

pub tie_chains-requires-clause-some_path : goal.tie_chains-requires-clause-some_path
tie_chains-requires-clause-some_path c = grind (arith, common_steps) steps 2000000

pub returns-in_default-clause-some : goal.returns-in_default-clause-some
returns-in_default-clause-some c = grind (arith, common_steps) steps 2000000

pub tie_bound-requires-clause-some_path : goal.tie_bound-requires-clause-some_path
tie_bound-requires-clause-some_path c = grind (arith, common_steps) steps 2000000

pub tie_bound-requires-clause-ends : goal.tie_bound-requires-clause-ends
tie_bound-requires-clause-ends c = grind (arith, common_steps) steps 2000000

pub tie_bound-requires-clause-within : goal.tie_bound-requires-clause-within
tie_bound-requires-clause-within c = grind (arith, common_steps) steps 2000000

pub returns-in_err-chains-clause-none : goal.returns-in_err-chains-clause-none
returns-in_err-chains-clause-none c =
    let p = err_from_is_err_and c.from_residual.result c.from_residual.ensures.1 in
    rw p.1 tt

pub returns-in_err-chains-clause-some : goal.returns-in_err-chains-clause-some
returns-in_err-chains-clause-some c =
    let p = err_from_is_err_and c.from_residual.result c.from_residual.ensures.1 in
    rw p.1 tt
