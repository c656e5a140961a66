use Rattle.std.proofs.Common.{◌≡◌, take, string_bytes}
use Rattle.tsn_gate.specs.Device.{limits_lines}
use Rattle.tsn_gate.proofs.device.device_lines.Given as goal

abbrev pub invariant-loop-list : goal.invariant-loop-list
invariant-loop-list l = string_bytes l.text ≡ limits_lines l.problem.network l.limits.most l.limits.least (take l.list-index l.lists)
