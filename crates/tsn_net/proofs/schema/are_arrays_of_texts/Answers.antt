use Rattle.std.proofs.Common.{sym, ap, ◌∙◌}
use Rattle.std.specs.List.{list_all}
use Rattle.std.proofs.lemmas.List.{drop_all}
use Rattle.toml.specs.View.{view}
use Rattle.toml.specs.declared.value.Value.{Value}
use Rattle.tsn_net.specs.Schema.{is_array_of_texts}
use Rattle.tsn_model.proofs.Rest.{rest_from, all_here, all_later}
use Rattle.tsn_net.proofs.schema.are_arrays_of_texts.Goals as goal

pub returns-then-not-is_array_of_texts : goal.returns-then-not-is_array_of_texts
returns-then-not-is_array_of_texts c =
    let next = rest_from c.args.values.now c.loop-value.value-index c.value-item.result c.loop-value-test.true c.value-item.is in
    all_here (λ (v : Value). is_array_of_texts (view v)) _ _ c.value-item.result next _
    (sym c.is_array_of_texts.ensures ∙ c.if-not-is_array_of_texts.true) c.loop-value.invariant

pub loop-value-preserved : goal.loop-value-preserved
loop-value-preserved c =
    let next = rest_from c.args.values.now c.loop-value.value-index c.value-item.result c.loop-value-test.true c.value-item.is in
    all_later (λ (v : Value). is_array_of_texts (view v)) _ _ c.value-item.result next _
    (sym c.is_array_of_texts.ensures ∙ c.if-not-is_array_of_texts.false) c.loop-value.invariant

pub returns : goal.returns
returns c =
    sym (ap (list_all (λ (v : Value). is_array_of_texts (view v)))
    (drop_all c.loop-value.value-index c.args.values.now c.loop-value-test.false)) ∙ c.loop-value.invariant
