use Rattle.std.proofs.Common.{◌≡◌, ◌++◌, map, take}
use Rattle.tsn_gate.specs.Windows.{moved}
use Rattle.tsn_gate.proofs.windows.push_windows.Given as goal

abbrev pub invariant-loop-shift : goal.invariant-loop-shift
invariant-loop-shift l = l.windows.items ≡ l.fn.windows.items ++ map (moved l.first) (take l.shift-index l.shifts)
