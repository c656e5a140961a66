use Rattle.std.proofs.Common.{◌≡◌, drop}
use Rattle.tsn_gate.specs.Device.{has_background}
use Rattle.tsn_gate.proofs.device.has_background.Given as goal

-- whether one of the rest is the background's is whether one of all is
abbrev pub invariant-loop-entry : goal.invariant-loop-entry
invariant-loop-entry l = has_background (drop l.entry-index l.entries) ≡ has_background l.entries
