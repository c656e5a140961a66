use Rattle.std.proofs.Common.{◌≡◌, map, take}
use Rattle.toml.specs.View.{view}
use Rattle.tsn_net.specs.Problem.{offset_at}
use Rattle.tsn_net.proofs.problem.read_offsets.Given as goal

-- the offsets so far
abbrev pub invariant-loop-stream : goal.invariant-loop-stream
invariant-loop-stream l = l.offsets.items ≡ map offset_at (map view (take l.stream-index l.streams))
