use Rattle.std.proofs.Common.{subst}
use Rattle.std.proofs.lemmas.List.Elements.{All-contains, All-tail}
use Rattle.tsn_model.specs.Certificate.{IsFrameOn}
use Rattle.tsn_model.specs.Argument.{IsEdge}
use Rattle.tsn_cert.specs.Move.{edge_of}
use Rattle.tsn_argue.specs.State.{view_of}
use Rattle.tsn_argue.proofs.filling.low_of.Goals as goal

pub span_of-requires-clause-on : goal.span_of-requires-clause-on
span_of-requires-clause-on c =
    let group = c.args.group.now in
    let edge = subst (λ edge. IsEdge (view_of group.view.now) group.others.now (edge_of edge)) c.in-Some.is c.requires.edge in
    All-contains (IsFrameOn group.view.now.timing.now group.link) group.others.now c.in-Some.frame
    (All-tail (IsFrameOn group.view.now.timing.now group.link) group.first group.others.now c.requires.group.on) edge.0
