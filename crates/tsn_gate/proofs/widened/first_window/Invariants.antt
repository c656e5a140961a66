use Rattle.std.proofs.Common.{◌≡◌, ◌≢◌, ℕ, ◌≤◌, ◌<◌, take}
use Rattle.tsn_model.specs.Gates.{cycle_of, scheduled_octet}
use Rattle.tsn_gate.specs.Entries.{octet_at}
use Rattle.tsn_gate.proofs.widened.first_window.Given as goal

abbrev pub invariant-loop-entry : goal.invariant-loop-entry
invariant-loop-entry l = record {
  start : l.start ≡ cycle_of (take l.entry-index l.entries);
  none : (t : ℕ) → l.from ≤ t → t < l.until → t < l.start → octet_at l.entries t ≢ scheduled_octet;
}
