use Rattle.std.proofs.Common.{◌≡◌, ◌++◌, take, string_bytes}
use Rattle.std.specs.List.{flat_map}
use Rattle.tsn_gate.specs.Taprio.{part_text}
use Rattle.tsn_gate.proofs.taprio.write_parts.Given as goal

abbrev pub invariant-loop-list : goal.invariant-loop-list
invariant-loop-list l = string_bytes l.text ≡ string_bytes l.initial.text ++ flat_map (part_text l.problem) (take l.list-index l.lists)
