use Rattle.std.proofs.Common.{not, sym, ap, ◌∙◌}
use Rattle.std.specs.List.{find}
use Rattle.std.proofs.lemmas.List.{drop_more, drop_all}
use Rattle.toml.specs.View.{view}
use Rattle.tsn_net.specs.declared.schema.Key.{Key}
use Rattle.tsn_net.specs.Schema.{holds_at, has_kind}
use Rattle.tsn_model.proofs.Rest.{find_here, find_later}
use Rattle.tsn_net.proofs.schema.amiss_key.Goals as goal

pub loop-key-init : goal.loop-key-init
loop-key-init c = ap (find (λ k. holds_at k (λ v. not (has_kind k v)) (view c.args.value.now))) c.known-key-items.ensures

pub returns-then-is_of_wrong_kind : goal.returns-then-is_of_wrong_kind
returns-then-is_of_wrong_kind c =
    find_here (λ (k : Key). holds_at k (λ v. not (has_kind k v)) (view c.args.value.now)) _ _ _
    (drop_more c.known-key-items.result.now c.loop-key.key-index _ c.loop-key-test.true) _
    (sym c.is_of_wrong_kind.ensures ∙ c.if-is_of_wrong_kind.true) c.loop-key.invariant

pub loop-key-preserved : goal.loop-key-preserved
loop-key-preserved c =
    find_later (λ (k : Key). holds_at k (λ v. not (has_kind k v)) (view c.args.value.now)) _ _ _
    (drop_more c.known-key-items.result.now c.loop-key.key-index _ c.loop-key-test.true) _
    (sym c.is_of_wrong_kind.ensures ∙ c.if-is_of_wrong_kind.false) c.loop-key.invariant

pub returns : goal.returns
returns c =
    sym (ap (find (λ (k : Key). holds_at k (λ v. not (has_kind k v)) (view c.args.value.now)))
    (drop_all c.loop-key.key-index c.known-key-items.result.now c.loop-key-test.false)) ∙ c.loop-key.invariant
