use Rattle.std.proofs.Common.{◌≡◌, ◌<◌, ◌-◌, length, Some, None, subst, arith}
use Rattle.json.specs.Json.{after_end_array}
use Rattle.tsn_cert.specs.Argument.{step_form}
use Rattle.tsn_cert.proofs.Says.{said_shorter}
use Rattle.tsn_codec.specs.ArgumentSays.{step_element}
use Rattle.tsn_codec.proofs.Elements.{taken_more, taken_over}
use Rattle.tsn_codec.proofs.Steps.{stands_more}
use Rattle.tsn_codec.proofs.argument.step.steps_inside.Goals as goal

pub steps-preserved : goal.steps-preserved
steps-preserved c =
    let inv = c.steps.invariant in
    let going : after_end_array c.steps.tokens ≡ None = grind arith in
    let same : c.take_end.new.self ≡ c.steps.tokens = grind arith in
    let got : step_form.taken c.steps.tokens ≡ Some (c.in-Ok.step, c.step_or_why.new.tokens) =
    subst (λ ts. step_form.taken ts ≡ Some (c.in-Ok.step, c.step_or_why.new.tokens)) same c.in-Ok.ensures in
    let less : length c.step_or_why.new.tokens < length c.steps.tokens = said_shorter 8 step_form step_element _ _ _ got in
    let more = c.in_ok-push-in-Ok.ensures.items in (
      inv.0 - 1,
      omega (arith, inv.1),
      taken_more _ inv.0 _ _ _ _ _ _ (omega (arith, inv.1)) going got more inv.2,
      stands_more _ _ _ _ _ _ _ going got more inv.3,
    )

pub steps-smaller : goal.steps-smaller
steps-smaller c =
    let same : c.take_end.new.self ≡ c.steps.tokens = grind arith in
    said_shorter 8 step_form step_element _ _ _
    (subst (λ ts. step_form.taken ts ≡ Some (c.in-Ok.step, c.step_or_why.new.tokens)) same c.in-Ok.ensures)

pub returns : goal.returns
returns c =
    let inv = c.steps.invariant in
    let closed : after_end_array c.steps.tokens ≡ Some c.take_end.new.self = grind arith in
    taken_over _ inv.0 _ _ _ _ inv.1 closed inv.2
