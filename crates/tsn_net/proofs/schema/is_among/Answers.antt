use Rattle.std.proofs.Common.{sym, ap, ◌∙◌}
use Rattle.std.specs.List.{list_any}
use Rattle.std.specs.Str.{bytes_eq}
use Rattle.std.proofs.lemmas.List.{drop_more, drop_all}
use Rattle.tsn_net.specs.declared.schema.Key.{Key}
use Rattle.tsn_net.specs.Schema.{name_of}
use Rattle.tsn_model.proofs.Rest.{any_here, any_later}
use Rattle.tsn_net.proofs.schema.is_among.Goals as goal

pub returns-then-eq : goal.returns-then-eq
returns-then-eq c =
    let name = c.args.name.now in
    any_here (λ (k : Key). bytes_eq (name_of k) name) _ _ _ (drop_more c.args.keys.now c.loop-key.key-index _ c.loop-key-test.true) _
    (ap (λ t. bytes_eq t name) (sym c.name.ensures) ∙ sym c.eq.ensures ∙ c.if-eq.true) c.loop-key.invariant

pub loop-key-preserved : goal.loop-key-preserved
loop-key-preserved c =
    let name = c.args.name.now in
    any_later (λ (k : Key). bytes_eq (name_of k) name) _ _ _ (drop_more c.args.keys.now c.loop-key.key-index _ c.loop-key-test.true) _
    (ap (λ t. bytes_eq t name) (sym c.name.ensures) ∙ sym c.eq.ensures ∙ c.if-eq.false) c.loop-key.invariant

pub returns : goal.returns
returns c =
    sym (ap (list_any (λ k. bytes_eq (name_of k) c.args.name.now)) (drop_all c.loop-key.key-index c.args.keys.now c.loop-key-test.false)) ∙ c.loop-key.invariant
