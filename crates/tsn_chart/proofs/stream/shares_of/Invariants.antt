use Rattle.std.proofs.Common.{◌≡◌, map}
use Rattle.std.specs.List.{range_with_len}
use Rattle.tsn_chart.specs.Shares.{stream_share}
use Rattle.tsn_chart.proofs.stream.shares_of.Given as goal

abbrev pub invariant-loop-stream : goal.invariant-loop-stream
invariant-loop-stream l = l.shares.items ≡ map (stream_share l.timing l.valid) (range_with_len 0 l.stream)
