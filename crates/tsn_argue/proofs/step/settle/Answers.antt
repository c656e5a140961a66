use Rattle.std.proofs.Common.{◌∙◌, ap, sym, subst, pos, ◌≤ℤ◌, ◌<ℤ◌, arith}
use Rattle.std.proofs.lemmas.Int.{ints}
use Rattle.tsn_model.specs.Schedule.{flowspan}
use Rattle.tsn_model.specs.Argument.{settled}
use Rattle.tsn_argue.specs.State.{view_of}
use Rattle.tsn_argue.specs.Steps.{goal_of, IsAim}
use Rattle.tsn_argue.proofs.Settling.{settled_not, settled_on, settled_other, same_view, on_same}
use Rattle.tsn_argue.proofs.step.settle.Goals as goal

pub returns-in_default : goal.returns-in_default
returns-in_default c =
    same_view c.args.view.now _ c.requires.sound
    (settled_other c.args.view.now.timing.now c.args.aim.now (view_of c.args.view.now) (λ plan span is. c.in_default.not-First plan span is))

pub returns-then-view-flowspan : goal.returns-then-view-flowspan
returns-then-view-flowspan c =
    let network = c.args.view.now.timing.now in
    let view = view_of c.args.view.now in
    let aimed = subst (IsAim network) c.in-First.is c.requires.aim in
    let below : view.done_low <ℤ pos (flowspan network c.in-First.plan.now) = omega (arith, ints, c.if-view-flowspan.true) in
    same_view c.args.view.now _ c.requires.sound
    (ap (λ aim. settled network (goal_of aim) view) c.in-First.is ∙ settled_not network c.in-First.plan.now view below)

pub returns : goal.returns
returns c =
    let network = c.args.view.now.timing.now in
    let view = view_of c.args.view.now in
    let aimed = subst (IsAim network) c.in-First.is c.requires.aim in
    let known : pos (flowspan network c.in-First.plan.now) ≤ℤ view.done_low = omega (arith, ints, c.if-view-flowspan.false) in
    on_same c.args.view.now c.cap.new.view _ _ c.cap.result
    (sym (ap (λ aim. settled network (goal_of aim) view) c.in-First.is ∙ settled_on network c.in-First.plan.now view known)) c.cap.ensures
