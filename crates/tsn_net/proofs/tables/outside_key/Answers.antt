use Rattle.std.proofs.Common.{not, sym, ap, ◌∙◌}
use Rattle.std.specs.List.{find}
use Rattle.std.proofs.lemmas.List.{drop_more, drop_all}
use Rattle.toml.specs.View.{view}
use Rattle.tsn_net.specs.declared.schema.Key.{Key}
use Rattle.tsn_net.specs.Matter.{is_in_range}
use Rattle.tsn_model.proofs.Rest.{find_here, find_later}
use Rattle.tsn_net.proofs.tables.outside_key.Goals as goal

pub loop-key-init : goal.loop-key-init
loop-key-init c = ap (find (λ k. not (is_in_range k (view c.args.value.now)))) c.numbers-key-items.ensures

pub returns-then-not-is_in_range : goal.returns-then-not-is_in_range
returns-then-not-is_in_range c =
    find_here (λ (k : Key). not (is_in_range k (view c.args.value.now))) _ _ _
    (drop_more c.numbers-key-items.result.now c.loop-key.key-index _ c.loop-key-test.true) _
    (ap not (sym c.is_in_range.ensures ∙ c.if-not-is_in_range.true)) c.loop-key.invariant

pub loop-key-preserved : goal.loop-key-preserved
loop-key-preserved c =
    find_later (λ (k : Key). not (is_in_range k (view c.args.value.now))) _ _ _
    (drop_more c.numbers-key-items.result.now c.loop-key.key-index _ c.loop-key-test.true) _
    (ap not (sym c.is_in_range.ensures ∙ c.if-not-is_in_range.false)) c.loop-key.invariant

pub returns : goal.returns
returns c =
    sym (ap (find (λ (k : Key). not (is_in_range k (view c.args.value.now))))
    (drop_all c.loop-key.key-index c.numbers-key-items.result.now c.loop-key-test.false)) ∙ c.loop-key.invariant
