use Rattle.std.proofs.Common.{ap, map, ◌∙◌}
use Rattle.std.proofs.lemmas.List.{map-append}
use Rattle.serde_json.specs.View.{view}
use Rattle.tsn_model.proofs.More.{mapped_more}
use Rattle.tsn_chart.specs.Json.{listener_value}
use Rattle.tsn_chart.proofs.json.listener_values.Goals as goal

pub loop-listener-preserved : goal.loop-listener-preserved
loop-listener-preserved c =
    mapped_more (listener_value c.args.problem.now) c.args.listeners.now c.loop-listener.listener-index _ _ _ _ c.loop-listener-test.true
    c.loop-listener.invariant (ap (map view) c.in_ok-push.ensures.items ∙ map-append view c.loop-listener.values.items _) c.in_ok-listener_value.ensures
