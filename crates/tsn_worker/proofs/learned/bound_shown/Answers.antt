use Rattle.std.proofs.Common.{rules, ◌≤◌, sym, subst}
use Rattle.tsn_answer.proofs.ShownPlans.{optimal_within}
use Rattle.tsn_worker.proofs.learned.bound_shown.Goals as goal

pub returns-then-branch-clause-within_cycle : goal.returns-then-branch-clause-within_cycle
returns-then-branch-clause-within_cycle c =
    subst (λ n. n ≤ c.args.problem.now.network.cycle) (sym c.span_of.ensures)
    (optimal_within c.args.problem.now.network c.args.plan.now (c.is_optimal.ensures.optimal (search rules)))
