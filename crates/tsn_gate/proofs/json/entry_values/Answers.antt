use Rattle.std.proofs.Common.{ap, map, ◌∙◌}
use Rattle.std.proofs.lemmas.List.{map-append}
use Rattle.serde_json.specs.View.{view}
use Rattle.tsn_gate.specs.Json.{entry_value}
use Rattle.tsn_model.proofs.More.{mapped_more}
use Rattle.tsn_gate.proofs.json.entry_values.Goals as goal

pub loop-entry-preserved : goal.loop-entry-preserved
loop-entry-preserved c =
    mapped_more entry_value c.args.entries.now c.loop-entry.entry-index _ _ _ _ c.loop-entry-test.true c.loop-entry.invariant
    (ap (map view) c.in_ok-push.ensures.items ∙ map-append view c.loop-entry.values.items _) c.in_ok-entry_value.ensures
