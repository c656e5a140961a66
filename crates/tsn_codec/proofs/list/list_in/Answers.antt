use Rattle.std.proofs.Common.{ap, ◌∙◌}
use Rattle.json.specs.Lex.{tokens}
use Rattle.tsn_cert.specs.Says.{value_read}
use Rattle.tsn_codec.proofs.Lists.{list_read, text_read}
use Rattle.tsn_codec.proofs.list.list_in.Goals as goal

pub returns : goal.returns
returns g c = λ deep.
    list_read g.T.Element.seen g.T.Element.form g.met.T.Element.says _ _ _ _
    (ap (value_read 127) (c.in_ok-tokens.ensures ∙ ap tokens c.as_str.ensures.value) ∙ text_read _ _ (c.in_ok-text.ensures.reads_back deep))
    c.list_or_why.ensures
