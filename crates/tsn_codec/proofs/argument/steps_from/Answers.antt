use Rattle.std.proofs.Common.{◌≡◌, [], Some, ap, ◌∙◌}
use Rattle.json.specs.Lex.{tokens}
use Rattle.serde_json.specs.View.{view}
use Rattle.tsn_cert.specs.Says.{value_read}
use Rattle.tsn_codec.proofs.Lists.{text_read}
use Rattle.tsn_codec.proofs.Steps.{steps_found}
use Rattle.tsn_codec.proofs.argument.steps_from.Goals as goal

pub returns-clause-steps : goal.returns-clause-steps
returns-clause-steps c =
    let spelled : value_read 127 c.in_ok-tokens.tokens ≡ Some (view c.args.value.now, []) =
    ap (value_read 127) (c.in_ok-tokens.ensures ∙ ap tokens c.as_str.ensures.value) ∙ text_read _ _ (c.in_ok-text.ensures.reads_back c.requires) in
    (steps_found _ _ _ _ spelled c.steps_or_why.ensures).0

pub returns-clause-told : goal.returns-clause-told
returns-clause-told c =
    let spelled : value_read 127 c.in_ok-tokens.tokens ≡ Some (view c.args.value.now, []) =
    ap (value_read 127) (c.in_ok-tokens.ensures ∙ ap tokens c.as_str.ensures.value) ∙ text_read _ _ (c.in_ok-text.ensures.reads_back c.requires) in
    (steps_found _ _ _ _ spelled c.steps_or_why.ensures).1
