use Rattle.std.proofs.Common.{◌≡◌, take, map}
use Rattle.serde_json.specs.View.{view}
use Rattle.tsn_chart.specs.Json.{listener_value}
use Rattle.tsn_chart.proofs.json.listener_values.Given as goal

abbrev pub invariant-loop-listener : goal.invariant-loop-listener
invariant-loop-listener l = map view l.values.items ≡ map (listener_value l.problem) (take l.listener-index l.listeners)
