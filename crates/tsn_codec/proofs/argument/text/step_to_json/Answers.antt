use Rattle.std.proofs.Common.{◌++◌, ◌∙◌, ap}
use Rattle.serde_json.specs.Written.{comma_if, compact_text, has_float}
use Rattle.tsn_cert.proofs.ArgumentLemmas.{step_written}
use Rattle.tsn_codec.proofs.argument.text.step_to_json.Goals as goal

pub returns : goal.returns
returns c =
    let is = c.in_ok-value.ensures.value in
    c.in_ok-element_text.ensures (ap has_float is ∙ (step_written c.args.step.now).no_float) ∙ ap (λ d. comma_if c.args.later ++ compact_text d) is
