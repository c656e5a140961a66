use Rattle.std.proofs.Common.{sym, ap, ◌∙◌}
use Rattle.std.specs.List.{list_all}
use Rattle.std.proofs.lemmas.List.{drop_all}
use Rattle.toml.specs.View.{view}
use Rattle.toml.specs.declared.value.Value.{Value}
use Rattle.tsn_net.specs.Schema.{is_text}
use Rattle.tsn_model.proofs.Rest.{rest_from, all_here, all_later}
use Rattle.tsn_net.proofs.schema.are_texts.Goals as goal

pub returns-then-not-is_str : goal.returns-then-not-is_str
returns-then-not-is_str c =
    let next = rest_from c.args.values.now c.loop-value.value-index c.value-item.result c.loop-value-test.true c.value-item.is in
    all_here (λ (v : Value). is_text (view v)) _ _ c.value-item.result next _ (sym c.is_str.ensures ∙ c.if-not-is_str.true) c.loop-value.invariant

pub loop-value-preserved : goal.loop-value-preserved
loop-value-preserved c =
    let next = rest_from c.args.values.now c.loop-value.value-index c.value-item.result c.loop-value-test.true c.value-item.is in
    all_later (λ (v : Value). is_text (view v)) _ _ c.value-item.result next _ (sym c.is_str.ensures ∙ c.if-not-is_str.false) c.loop-value.invariant

pub returns : goal.returns
returns c =
    sym (ap (list_all (λ (v : Value). is_text (view v))) (drop_all c.loop-value.value-index c.args.values.now c.loop-value-test.false)) ∙ c.loop-value.invariant
