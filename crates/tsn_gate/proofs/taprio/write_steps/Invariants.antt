use Rattle.std.proofs.Common.{◌≡◌, ◌++◌, take, string_bytes}
use Rattle.std.specs.List.{flat_map}
use Rattle.tsn_gate.specs.Taprio.{step_text}
use Rattle.tsn_gate.proofs.taprio.write_steps.Given as goal

abbrev pub invariant-loop-entry : goal.invariant-loop-entry
invariant-loop-entry l = string_bytes l.text ≡ string_bytes l.initial.text ++ flat_map step_text (take l.entry-index l.entries)
