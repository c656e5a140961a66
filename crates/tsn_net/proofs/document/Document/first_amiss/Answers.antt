use Rattle.std.proofs.Common.{◌++◌, ap, sym, ◌∙◌}
use Rattle.std.specs.Prelude.{is_some}
use Rattle.tsn_net.specs.Document.{node_places, cable_places, stream_places}
use Rattle.tsn_net.specs.DocumentView.{document_view}
use Rattle.tsn_net.proofs.PlaceLemmas.{among-or, among-rest}
use Rattle.tsn_net.proofs.document.Document.first_amiss.Goals as goal

pub returns : goal.returns
returns c =
    let d = document_view c.args.self.now in
    let code = c.args.code in
    let rest = among-or code d (cable_places d) (stream_places d) c.in_cables.result c.in_streams.result c.in_cables.ensures c.in_streams.ensures in
    let all = among-or code d (node_places d) (cable_places d ++ stream_places d) c.in_nodes.result _ c.in_nodes.ensures rest in
    rw (c.or-2.ensures, c.or.ensures) (among-rest code d _ (sym c.matter.ensures.0 ∙ ap is_some c.in_default.is) all)
