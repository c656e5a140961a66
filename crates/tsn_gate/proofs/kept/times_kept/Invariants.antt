use Rattle.std.proofs.Common.{◌≡◌, ◌++◌, take, drop}
use Rattle.tsn_model.specs.Gates.{cycle_of}
use Rattle.tsn_gate.specs.Merged.{background_times, kept_times}
use Rattle.tsn_gate.proofs.kept.times_kept.Given as goal

abbrev pub invariant-loop-entry : goal.invariant-loop-entry
invariant-loop-entry l = record {
  start : l.start ≡ cycle_of (take l.entry-index l.entries);
  kept : kept_times l.least l.cycle 0 (background_times 0 l.entries) ≡ l.kept.items ++ kept_times l.least l.cycle l.from (background_times l.start (drop l.entry-index l.entries));
}
