use Rattle.std.proofs.Common.{◌≤◌, subst, arith}
use Rattle.std.proofs.lemmas.Int.{ints}
use Rattle.tsn_argue.specs.Steps.{IsAim}
use Rattle.tsn_argue.proofs.FirstView.{span_within}
use Rattle.tsn_argue.proofs.view.greatest_flowspan.Goals as goal

pub returns-in-First-clause-high : goal.returns-in-First-clause-high
returns-in-First-clause-high c =
    let aim = subst (IsAim c.args.timing.now) c.in-First.is c.requires in
    let within : c.in-First.flowspan ≤ c.args.timing.now.cycle = span_within c.args.timing.now c.in-First.plan.now c.in-First.flowspan aim.0 aim.1 in
    omega (arith, ints, within)

pub returns-in-Least-clause-high : goal.returns-in-Least-clause-high
returns-in-Least-clause-high c =
    let aim = subst (IsAim c.args.timing.now) c.in-Least.is c.requires in
    let within : c.in-Least.flowspan ≤ c.args.timing.now.cycle = span_within c.args.timing.now c.in-Least.plan.now c.in-Least.flowspan aim.0 aim.1 in
    omega (arith, ints, within)
