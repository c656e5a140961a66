use Rattle.std.proofs.Common.{sym, subst, ◌∙◌, ap, ap₂, length}
use Rattle.std.proofs.lemmas.List.{length-map}
use Rattle.tsn_net.specs.DocumentView.{document_view}
use Rattle.tsn_model.specs.Network.{stream_count}
use Rattle.tsn_model.specs.Held.{AreInLimits, held}
use Rattle.tsn_net.specs.Problem.{stream_of, offset_at, cycle_of, node_names_of, links_of}
use Rattle.tsn_net.proofs.problem.read_network.Goals as goal

pub held_at-requires-clause-count : goal.held_at-requires-clause-count
held_at-requires-clause-count c =
    let document = document_view c.args.document.now in
    ap length (c.deref.ensures.value ∙ c.in_ok-offsets.ensures) ∙ length-map document.streams offset_at
    ∙ sym (ap stream_count c.in_ok-network.ensures ∙ length-map document.streams (stream_of (cycle_of document) (node_names_of document) (links_of document)))

pub held_at-requires-clause-within : goal.held_at-requires-clause-within
held_at-requires-clause-within c = subst AreInLimits (sym (c.deref.ensures.value ∙ c.in_ok-offsets.ensures)) c.requires.offsets

pub returns : goal.returns
returns c = c.held_at.ensures ∙ ap₂ held c.in_ok-network.ensures (c.deref.ensures.value ∙ c.in_ok-offsets.ensures)
