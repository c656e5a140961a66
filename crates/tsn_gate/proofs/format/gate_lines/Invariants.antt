use Rattle.std.proofs.Common.{◌≡◌, take, string_bytes}
use Rattle.std.specs.List.{flat_map}
use Rattle.tsn_gate.specs.Json.{json_text}
use Rattle.tsn_gate.proofs.format.gate_lines.Given as goal

abbrev pub invariant-loop-list : goal.invariant-loop-list
invariant-loop-list l = string_bytes l.text ≡ flat_map (json_text l.problem) (take l.list-index l.lists)
