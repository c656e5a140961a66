use Rattle.std.proofs.Common.{sym, subst, pos, ◌≤ℤ◌, arith}
use Rattle.std.proofs.lemmas.Int.{ints}
use Rattle.tsn_model.specs.Schedule.{flowspan}
use Rattle.tsn_argue.specs.State.{view_of}
use Rattle.tsn_argue.specs.Steps.{goal_of, IsAim, FindsOpen}
use Rattle.tsn_argue.proofs.Taking.{possible}
use Rattle.tsn_argue.proofs.Settling.{open_first}
use Rattle.tsn_argue.proofs.step.judge_end.Goals as goal

pub returns-else-least-flowspan : goal.returns-else-least-flowspan
returns-else-least-flowspan c =
    let network = c.args.view.now.timing.now in
    let view = view_of c.args.view.now in
    let aimed = subst (IsAim network) c.in-First.is c.requires.aim in
    let known : pos (flowspan network c.in-First.plan.now) ≤ℤ view.done_low = omega (arith, ints) in
    subst (λ aim. FindsOpen network (goal_of aim) view c.first_below.result) (sym c.in-First.is)
    (open_first network c.in-First.plan.now view c.first_below.result aimed.0.count
    (possible c.args.view.now c.requires.sound c.if-view.false) known c.first_below.ensures)
