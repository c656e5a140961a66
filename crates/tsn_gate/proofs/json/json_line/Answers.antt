use Rattle.std.proofs.Common.{◌≡◌, List, [], ◌∷◌, map, false, refl, ap, ◌∙◌}
use Rattle.serde_json.specs.View.{items_of}
use Rattle.serde_json.specs.Written.{has_float, items_have_float}
use Rattle.tsn_model.specs.declared.GateEntry.{GateEntry}
use Rattle.tsn_model.specs.Bridge.{LinkGates}
use Rattle.tsn_timing.specs.Problem.{NamedNetwork}
use Rattle.tsn_gate.specs.Json.{entry_value, line_text, list_value}
use Rattle.tsn_gate.proofs.json.json_line.Goals as goal

no_float-entries : (entries : List GateEntry) → items_have_float (items_of (map entry_value entries)) ≡ false
no_float-entries [] = refl
no_float-entries (entry ∷ entries) = no_float-entries entries

no_float : (problem : NamedNetwork) (list : LinkGates) → has_float (list_value problem list) ≡ false
no_float problem list = rw (no_float-entries list.entries) refl

pub returns : goal.returns
returns c = c.in_ok-line.ensures (ap has_float c.in_ok-value.ensures ∙ no_float c.args.problem.now c.args.list.now) ∙ ap line_text c.in_ok-value.ensures
