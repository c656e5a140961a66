use Rattle.std.proofs.Common.{◌≡◌}
use Rattle.tsn_model.specs.Network.{stream_count}
use Rattle.tsn_conflict.specs.Rows.{uses_in}
use Rattle.tsn_conflict.proofs.Reading.{rows_first}
use Rattle.tsn_conflict.proofs.uses.rows_of.Given as goal

abbrev pub invariant-loop-stream : goal.invariant-loop-stream
invariant-loop-stream l = record {
  so_far : uses_in l.rows.items ≡ rows_first l.timing l.stream;
  end : l.stream-end ≡ stream_count l.timing;
}
