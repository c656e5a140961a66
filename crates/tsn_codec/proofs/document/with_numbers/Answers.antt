use Rattle.std.proofs.Common.{[], ◌∷◌, map, ap, ◌∙◌}
use Rattle.std.proofs.lemmas.List.{map-append}
use Rattle.serde_json.specs.View.{view}
use Rattle.tsn_cert.specs.Json.{number_value}
use Rattle.tsn_model.proofs.More.{mapped_behind}
use Rattle.tsn_codec.proofs.document.with_numbers.Goals as goal

pub loop-number-preserved : goal.loop-number-preserved
loop-number-preserved c =
    mapped_behind number_value _ c.args.numbers.now c.loop-number.number-index 0 _ _ (view c.from.result) c.loop-number-test.true c.loop-number.invariant
    (ap (map view) c.in_ok-push.ensures.items ∙ map-append view _ (c.from.result ∷ [])) c.from.ensures
