-- The named network that a `Problem` holds.
use Rattle.tsn_timing.specs.declared.problem.Problem.TheInside.{Inside}
use Rattle.tsn_timing.specs.Problem.{NamedNetwork}
use Rattle.tsn_timing.specs.ProblemView.{names_in}

abbrev pub named_network : Inside → NamedNetwork
named_network p = record { network = p.timing; node_names = names_in p.nodes.items; stream_names = names_in p.streams.items }
