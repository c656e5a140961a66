use Rattle.std.proofs.Common.{◌≡◌, ◌++◌}
use Rattle.std.specs.List.{flat_map, range_with_len}
use Rattle.tsn_model.specs.Network.{stream_count, hop_count}
use Rattle.tsn_replay.proofs.Fresh.{cycle_frames, hop_frames, frames_upto}
use Rattle.tsn_replay.proofs.queue.frames_of.Given as goal

abbrev pub invariant-loop-cycle : goal.invariant-loop-cycle
invariant-loop-cycle l = record {
  so_far : l.frames.items
      ≡ (frames_upto l.network l.offsets l.cycles l.stream ++ flat_map (hop_frames l.network l.offsets l.cycles l.stream)
      (range_with_len 0 l.hop)) ++ flat_map (cycle_frames l.network l.offsets l.cycles l.stream l.hop) (range_with_len 0 l.cycle);
}

abbrev pub invariant-loop-hop : goal.invariant-loop-hop
invariant-loop-hop l = record {
  so_far : l.frames.items ≡ frames_upto l.network l.offsets l.cycles l.stream ++ flat_map (hop_frames l.network l.offsets l.cycles l.stream)
      (range_with_len 0 l.hop);
  last : l.hop-end ≡ hop_count l.network l.stream;
}

abbrev pub invariant-loop-stream : goal.invariant-loop-stream
invariant-loop-stream l = record {
  so_far : l.frames.items ≡ frames_upto l.network l.offsets l.cycles l.stream;
  last : l.stream-end ≡ stream_count l.network;
}
