use Rattle.std.proofs.Common.{◌≡◌, take, string_bytes}
use Rattle.tsn_gate.specs.Device.{closed_lines}
use Rattle.tsn_gate.proofs.device.closed_lines.Given as goal

abbrev pub invariant-loop-list : goal.invariant-loop-list
invariant-loop-list l = string_bytes l.text ≡ closed_lines (take l.list-index l.lists)
