use Rattle.std.proofs.Common.{◌≡◌, drop}
use Rattle.tsn_gate.specs.Device.{is_short}
use Rattle.tsn_gate.proofs.device.is_short.Given as goal

-- whether one of the rest is short is whether one of all is
abbrev pub invariant-loop-entry : goal.invariant-loop-entry
invariant-loop-entry l = is_short l.least (drop l.entry-index l.entries) ≡ is_short l.least l.entries
