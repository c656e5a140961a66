use Rattle.std.proofs.Common.{◌≡◌, false, codes, refl, sym, ◌∙◌, arith}
use Rattle.serde_json.specs.View.{view}
use Rattle.tsn_codec.proofs.Counted.{plan_apart}
use Rattle.tsn_codec.proofs.JsonLemmas.{get_depth}
use Rattle.tsn_codec.proofs.plan.plan_from.Goals as goal

pub unknown_key-requires-clause-distinct : goal.unknown_key-requires-clause-distinct
unknown_key-requires-clause-distinct c = plan_apart

pub unknown_key-requires-clause-all : goal.unknown_key-requires-clause-all
unknown_key-requires-clause-all c = rw (c.in_ok-flowspan.ensures, c.in_ok-offsets.ensures) refl

pub unknown_key-requires-clause-count : goal.unknown_key-requires-clause-count
unknown_key-requires-clause-count c =
    let other : c.is_object_of.result ≡ false = grind arith in
    sym c.is_object_of.ensures ∙ other

pub plan_from_values-requires : goal.plan_from_values-requires
plan_from_values-requires c =
    let inside = get_depth (codes "offsets") (view c.args.value.now) (view c.in_ok-offsets.offsets.now) c.in_ok-offsets.ensures in
    omega (arith, inside, c.requires)
