use Rattle.std.proofs.Common.{option_map, ap, sym, ◌∙◌}
use Rattle.tsn_net.specs.Matter.{amiss_fault}
use Rattle.tsn_net.specs.DocumentView.{document_view}
use Rattle.tsn_net.proofs.Faultless.{distinct_nodes, distinct_streams}
use Rattle.tsn_net.proofs.WellFormed.{well_formed, offsets_within}
use Rattle.tsn_net.proofs.read.stated.Goals as goal

pub problem_of-requires-clause-nodes : goal.problem_of-requires-clause-nodes
problem_of-requires-clause-nodes c =
    distinct_nodes (document_view c.args.document.now) (sym c.amiss.ensures.0 ∙ ap (option_map amiss_fault) c.in_default.is)

pub problem_of-requires-clause-streams : goal.problem_of-requires-clause-streams
problem_of-requires-clause-streams c =
    distinct_streams (document_view c.args.document.now) (sym c.amiss.ensures.0 ∙ ap (option_map amiss_fault) c.in_default.is)

pub problem_of-requires-clause-well_formed : goal.problem_of-requires-clause-well_formed
problem_of-requires-clause-well_formed c =
    well_formed (document_view c.args.document.now) (sym c.amiss.ensures.0 ∙ ap (option_map amiss_fault) c.in_default.is)

pub problem_of-requires-clause-offsets : goal.problem_of-requires-clause-offsets
problem_of-requires-clause-offsets c =
    offsets_within (document_view c.args.document.now) (sym c.amiss.ensures.0 ∙ ap (option_map amiss_fault) c.in_default.is)
