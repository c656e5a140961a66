use Rattle.std.proofs.Common.{sym, ap, ◌∙◌}
use Rattle.std.proofs.lemmas.List.{drop_more}
use Rattle.std.specs.Str.{bytes_eq}
use Rattle.tsn_model.proofs.Rest.{any_here, any_later, any_past}
use Rattle.tsn_cert.specs.declared.refused.Key.{Key}
use Rattle.tsn_cert.specs.Told.{key_name}
use Rattle.tsn_codec.proofs.document.is_among.Goals as goal

pub returns-then-eq : goal.returns-then-eq
returns-then-eq c =
    any_here (λ (k : Key). bytes_eq (key_name k) c.args.name.now) _ _ _
    (drop_more c.args.keys.now c.loop-key.key-index _ c.loop-key-test.true) _
    (ap (λ t. bytes_eq t c.args.name.now) (sym c.name.ensures) ∙ sym c.eq.ensures ∙ c.if-eq.true) c.loop-key.invariant

pub loop-key-preserved : goal.loop-key-preserved
loop-key-preserved c =
    any_later (λ (k : Key). bytes_eq (key_name k) c.args.name.now) _ _ _
    (drop_more c.args.keys.now c.loop-key.key-index _ c.loop-key-test.true) _
    (ap (λ t. bytes_eq t c.args.name.now) (sym c.name.ensures) ∙ sym c.eq.ensures ∙ c.if-eq.false) c.loop-key.invariant

pub returns : goal.returns
returns c = any_past (λ (k : Key). bytes_eq (key_name k) c.args.name.now) c.args.keys.now c.loop-key.key-index c.loop-key-test.false _ c.loop-key.invariant
