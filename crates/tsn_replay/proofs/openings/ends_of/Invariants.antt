use Rattle.std.proofs.Common.{◌≡◌, ◌+◌, ◌<◌, ℕ, length, take, slice_index}
use Rattle.tsn_model.specs.Gates.{cycle_of}
use Rattle.tsn_replay.proofs.openings.ends_of.Given as goal

abbrev pub invariant-loop-entry : goal.invariant-loop-entry
invariant-loop-entry l = record {
  count : length l.ends.items ≡ l.entry-index;
  each : (k : ℕ) → k < l.entry-index → slice_index l.ends.items k ≡ cycle_of (take (k + 1) l.entries);
  end : l.end ≡ cycle_of (take l.entry-index l.entries);
  last : l.entry-index-end ≡ length l.entries;
}
