use Rattle.std.proofs.Common.{◌≡◌, map, pos}
use Rattle.std.specs.List.{range_with_len}
use Rattle.tsn_model.specs.Network.{release_of}
use Rattle.tsn_argue.proofs.view.releases.Given as goal

abbrev pub invariant-loop-stream : goal.invariant-loop-stream
invariant-loop-stream l = l.list.items ≡ map (λ i. pos (release_of l.timing i)) (range_with_len 0 l.stream)
