use Rattle.std.proofs.Common.{◌≡◌, map}
use Rattle.std.specs.List.{range_with_len}
use Rattle.tsn_model.specs.Schedule.{latest_offset}
use Rattle.tsn_argue.proofs.view.latest_offsets.Given as goal

abbrev pub invariant-loop-stream : goal.invariant-loop-stream
invariant-loop-stream l = l.list.items ≡ map (latest_offset l.timing) (range_with_len 0 l.stream)
