use Rattle.std.proofs.Common.{◌≡◌, [], map}
use Rattle.std.specs.List.{range_with_len}
use Rattle.tsn_conflict.specs.Pairs.{numbers_in, numbers_with}
use Rattle.tsn_conflict.proofs.numbers.no_numbers.Given as goal

abbrev pub invariant-loop-stream : goal.invariant-loop-stream
invariant-loop-stream l = numbers_in l.lists.items ≡ map (numbers_with []) (range_with_len 0 l._stream)
