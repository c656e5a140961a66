use Rattle.std.proofs.Common.{sym, subst, ◌≡◌, ◌∙◌}
use Rattle.tsn_timing.specs.Problem.{HasNames, NamedNetwork}
use Rattle.tsn_timing.specs.ProblemView.{names_in}
use Rattle.tsn_net.specs.DocumentView.{document_view}
use Rattle.tsn_net.specs.Problem.{problem_of}
use Rattle.tsn_net.proofs.ProblemParts.{stated_names}
use Rattle.tsn_net.proofs.problem.problem_of.Goals as goal

pub new-requires : goal.new-requires
new-requires c =
    let named : NamedNetwork = record { network = c.in_ok-timing.timing; node_names = names_in c.in_ok-nodes.nodes.items; stream_names = names_in c.in_ok-streams.streams.items } in
    let network = c.in_ok-timing.ensures ∙ c.in_ok-network.ensures in
    let same : named ≡ problem_of (document_view c.args.document.now) =
    λ j. record { network = network j; node_names = c.in_ok-nodes.ensures j; stream_names = c.in_ok-streams.ensures j } in
    subst HasNames (sym same) (stated_names (document_view c.args.document.now))
