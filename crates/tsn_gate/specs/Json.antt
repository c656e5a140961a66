-- A gate control list as a line of JSON.
--     entry_value, list_value     its value
--     json_text                   its text
use Rattle.std.specs.Prelude.{ℕ, List, [], ◌∷◌, ◌++◌, map, codes}
use Rattle.serde_json.specs.Data.{Data, number, unsigned, string, array, object, no_items, item, no_members, member}
use Rattle.serde_json.specs.View.{items_of}
use Rattle.serde_json.specs.Written.{compact_text}
use Rattle.tsn_model.specs.declared.GateEntry.{GateEntry}
use Rattle.tsn_model.specs.Network.{link_at}
use Rattle.tsn_model.specs.Gates.{cycle_of}
use Rattle.tsn_model.specs.Bridge.{LinkGates}
use Rattle.tsn_timing.specs.Problem.{NamedNetwork}
use Rattle.tsn_gate.specs.Table.{name_at}

abbrev pub number_value : ℕ → Data
number_value n = number (unsigned n)

-- `[128,672]`: the octet and the interval
abbrev pub entry_value : GateEntry → Data
entry_value entry = array (item (number_value entry.octet) (item (number_value entry.interval) no_items))

-- an object with the cycle, the entries, and the link with the nodes that it joins
abbrev pub list_value : NamedNetwork → LinkGates → Data
list_value problem list =
    let link = link_at problem.network list.link in
    object (member (codes "cycle") (number_value (cycle_of list.entries)) (member (codes "entries") (array (items_of (map entry_value list.entries)))
    (member (codes "from") (string (name_at problem link.from)) (member (codes "link") (number_value list.link)
    (member (codes "to") (string (name_at problem link.to)) no_members)))))

-- a value as JSON with no space, and a line feed
abbrev pub line_text : Data → List ℕ
line_text value = compact_text value ++ 10 ∷ []

abbrev pub json_text : NamedNetwork → LinkGates → List ℕ
json_text problem list = line_text (list_value problem list)
