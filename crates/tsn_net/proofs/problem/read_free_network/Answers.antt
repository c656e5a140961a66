use Rattle.std.proofs.Common.{sym, subst, ◌∙◌}
use Rattle.tsn_net.specs.DocumentView.{document_view}
use Rattle.tsn_model.specs.Network.{IsWellFormed}
use Rattle.tsn_net.proofs.ProblemParts.{free_network_of-parts}
use Rattle.tsn_net.proofs.problem.read_free_network.Goals as goal

pub new-requires : goal.new-requires
new-requires c =
    let parts = free_network_of-parts (document_view c.args.document.now) c.number_at-cycle.result c.number_at-slack.result
    c.in_ok-procs.procs.items c.in_ok-paths.paths.0.items c.in_ok-paths.paths.1.items
    c.number_at-cycle.ensures c.number_at-slack.ensures c.in_ok-procs.ensures c.in_ok-paths.ensures.links c.in_ok-paths.ensures.streams in
    subst IsWellFormed (sym parts) c.requires.well_formed

pub returns : goal.returns
returns c =
    c.new.ensures ∙ free_network_of-parts (document_view c.args.document.now) c.number_at-cycle.result c.number_at-slack.result
    c.in_ok-procs.procs.items c.in_ok-paths.paths.0.items c.in_ok-paths.paths.1.items
    c.number_at-cycle.ensures c.number_at-slack.ensures c.in_ok-procs.ensures c.in_ok-paths.ensures.links c.in_ok-paths.ensures.streams
