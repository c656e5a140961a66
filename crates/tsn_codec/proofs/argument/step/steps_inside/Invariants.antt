use Rattle.std.proofs.Common.{◌≡◌, ◌≤◌, ℕ, length}
use Rattle.tsn_cert.specs.Argument.{step_form}
use Rattle.tsn_cert.specs.Form.{many, elements_taken}
use Rattle.tsn_codec.specs.Steps.{StandsBehind}
use Rattle.tsn_codec.proofs.Elements.{prefixed}
use Rattle.tsn_codec.proofs.argument.step.steps_inside.Given as goal

abbrev pub invariant-steps : goal.invariant-steps
invariant-steps l =
    (m : ℕ) × (length l.tokens ≤ m)
    × (prefixed l.found.items (many step_form.taken m l.tokens) ≡ elements_taken step_form.taken l.initial.tokens)
    × StandsBehind step_form.taken l.found.items l.initial.tokens l.tokens

abbrev pub decreases-steps : goal.decreases-steps
decreases-steps l = length l.tokens
