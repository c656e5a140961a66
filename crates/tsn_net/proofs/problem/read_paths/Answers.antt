use Rattle.std.proofs.Common.{ap, ◌∙◌, map}
use Rattle.toml.specs.View.{view}
use Rattle.tsn_net.specs.DocumentView.{document_view}
use Rattle.tsn_net.specs.Problem.{stream_of}
use Rattle.tsn_timing.specs.ProblemView.{names_in}
use Rattle.tsn_net.proofs.ProblemParts.{links_of-parts, streams_of-parts}
use Rattle.tsn_net.proofs.problem.read_paths.Goals as goal

pub returns-clause-links : goal.returns-clause-links
returns-clause-links c =
    links_of-parts (document_view c.args.document.now) (names_in c.in_ok-numbers.numbers.keys) c.in_ok-links.links.items c.in_ok-numbers.ensures
    c.in_ok-links.ensures

pub returns-clause-streams : goal.returns-clause-streams
returns-clause-streams c =
    let d = document_view c.args.document.now in
    let names = names_in c.in_ok-numbers.numbers.keys in
    streams_of-parts d c.args.cycle names c.in_ok-links.links.items c.in_ok-streams.streams.items c.in_ok-numbers.ensures
    (links_of-parts d names c.in_ok-links.links.items c.in_ok-numbers.ensures c.in_ok-links.ensures)
    (c.in_ok-streams.ensures ∙ ap (λ links. map (stream_of c.args.cycle names links) (map view c.args.document.now.streams.now)) c.deref.ensures.value)
