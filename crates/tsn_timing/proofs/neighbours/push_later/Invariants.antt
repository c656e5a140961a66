use Rattle.std.proofs.Common.{◌≡◌, ◌++◌, map, take}
use Rattle.tsn_timing.specs.Neighbours.{later}
use Rattle.tsn_timing.proofs.neighbours.push_later.Given as goal

abbrev pub invariant-loop-shift : goal.invariant-loop-shift
invariant-loop-shift l = l.slots.items ≡ l.fn.slots.items ++ map (later l.first) (take l.shift-index l.shifts)
