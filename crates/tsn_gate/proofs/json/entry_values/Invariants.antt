use Rattle.std.proofs.Common.{◌≡◌, take, map}
use Rattle.serde_json.specs.View.{view}
use Rattle.tsn_gate.specs.Json.{entry_value}
use Rattle.tsn_gate.proofs.json.entry_values.Given as goal

abbrev pub invariant-loop-entry : goal.invariant-loop-entry
invariant-loop-entry l = map view l.values.items ≡ map entry_value (take l.entry-index l.entries)
