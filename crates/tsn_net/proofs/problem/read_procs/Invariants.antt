use Rattle.std.proofs.Common.{◌≡◌, map, take}
use Rattle.toml.specs.View.{view}
use Rattle.tsn_net.specs.declared.schema.Key.TheVariants as key
use Rattle.tsn_net.specs.Problem.{number_at}
use Rattle.tsn_net.proofs.problem.read_procs.Given as goal

-- the times so far
abbrev pub invariant-loop-node : goal.invariant-loop-node
invariant-loop-node l = l.procs.items ≡ map (number_at key.Proc) (map view (take l.node-index l.nodes))
