use Rattle.std.proofs.Common.{◌≡◌, ◌*◌, ◌≤◌}
use Rattle.tsn_model.specs.Network.{stream_count}
use Rattle.tsn_branch.specs.Loads.{link_in, link_with, users_upto}
use Rattle.tsn_branch.proofs.loads.table_of.Given as goal

abbrev pub invariant-loop-stream : goal.invariant-loop-stream
invariant-loop-stream l = record {
  same : l.table.link ≡ l.link;
  upto : link_in l.table ≡ link_with l.timing l.link (users_upto l.timing l.link l.stream);
  short : l.table.work ≤ 1233600 * l.stream;
  end : l.stream-end ≡ stream_count l.timing;
}
