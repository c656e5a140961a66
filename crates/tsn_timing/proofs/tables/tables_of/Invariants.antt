use Rattle.std.proofs.Common.{◌≡◌}
use Rattle.tsn_model.specs.Network.{stream_count}
use Rattle.tsn_timing.specs.Tables.{AreRight, IsTable}
use Rattle.tsn_timing.proofs.tables.tables_of.Given as goal

abbrev pub invariant-loop-stream : goal.invariant-loop-stream
invariant-loop-stream l = record {
  right : AreRight (IsTable l.network) l.stream l.tables.items;
  end : l.stream-end ≡ stream_count l.network;
}
