use Rattle.std.proofs.Common.{◌≡◌, ◌≤◌, ◌+◌, map}
use Rattle.std.specs.List.{range_with_len}
use Rattle.tsn_model.specs.Network.{stream_count}
use Rattle.tsn_model.specs.Timing.{arrival, greatest}
use Rattle.tsn_model.specs.Schedule.{offset_of}
use Rattle.tsn_timing.proofs.timing.Timing.flowspan.Given as goal

abbrev pub invariant-loop-stream : goal.invariant-loop-stream
invariant-loop-stream l = record {
  so_far : l.last ≡ greatest (map (λ i. offset_of l.offsets i + arrival l.self i) (range_with_len 0 l.stream));
  bound : l.last ≤ l.self.cycle + 230000000;
  end : l.stream-end ≡ stream_count l.self;
}
