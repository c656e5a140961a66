use Rattle.std.proofs.Common.{◌≡◌, ◌≤◌, take, All}
use Rattle.tsn_model.specs.Network.{stream_count}
use Rattle.tsn_branch.specs.Releases.{releases_of}
use Rattle.tsn_branch.proofs.arcs.net_of.Given as goal

abbrev pub invariant-loop-stream : goal.invariant-loop-stream
invariant-loop-stream l = record {
  copied : l.releases.items ≡ take l.stream (releases_of l.timing);
  early : All (λ release. release ≤ 1000000000) l.releases.items;
  end : l.stream-end ≡ stream_count l.timing;
}
