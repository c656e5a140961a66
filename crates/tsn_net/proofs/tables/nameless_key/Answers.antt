use Rattle.std.proofs.Common.{not, sym, ap, ◌∙◌}
use Rattle.std.specs.List.{find}
use Rattle.std.proofs.lemmas.List.{drop_more, drop_all}
use Rattle.toml.specs.View.{view}
use Rattle.tsn_net.specs.declared.schema.Key.{Key}
use Rattle.tsn_net.specs.Document.{text_at}
use Rattle.tsn_net.specs.Conditions.{is_name}
use Rattle.tsn_model.proofs.Rest.{find_here, find_later}
use Rattle.tsn_net.proofs.tables.nameless_key.Goals as goal

pub loop-key-init : goal.loop-key-init
loop-key-init c = ap (find (λ k. not (is_name (text_at k (view c.args.value.now))))) c.names-key-items.ensures

pub returns-then-not-is_name : goal.returns-then-not-is_name
returns-then-not-is_name c =
    find_here (λ (k : Key). not (is_name (text_at k (view c.args.value.now)))) _ _ _
    (drop_more c.names-key-items.result.now c.loop-key.key-index _ c.loop-key-test.true) _
    (ap (λ t. not (is_name t)) (sym c.text_at.ensures) ∙ ap not (sym c.is_name.ensures ∙ c.if-not-is_name.true)) c.loop-key.invariant

pub loop-key-preserved : goal.loop-key-preserved
loop-key-preserved c =
    find_later (λ (k : Key). not (is_name (text_at k (view c.args.value.now)))) _ _ _
    (drop_more c.names-key-items.result.now c.loop-key.key-index _ c.loop-key-test.true) _
    (ap (λ t. not (is_name t)) (sym c.text_at.ensures) ∙ ap not (sym c.is_name.ensures ∙ c.if-not-is_name.false)) c.loop-key.invariant

pub returns : goal.returns
returns c =
    sym (ap (find (λ (k : Key). not (is_name (text_at k (view c.args.value.now)))))
    (drop_all c.loop-key.key-index c.names-key-items.result.now c.loop-key-test.false)) ∙ c.loop-key.invariant
