use Rattle.std.proofs.Common.{map, ◌∙◌}
use Rattle.tsn_model.specs.Unions.{union_of}
use Rattle.tsn_net.specs.Problem.{route_links}
use Rattle.tsn_timing.specs.ProblemView.{names_in}
use Rattle.tsn_net.proofs.problem.read_stream.Goals as goal

pub returns : goal.returns
returns c =
    let names = names_in c.args.names.now.keys in
    let links = c.args.index.now.links.now in
    let route = c.in_ok-route.ensures ∙ (λ j. union_of (map (route_links names links) (c.routes_of.ensures j))) in
    c.new.ensures ∙ (λ j. record {
      octets = c.number_at-octets.ensures j;
      turns = c.turns_at-turns.ensures j;
      burst = c.number_or-burst.ensures j;
      route = route j;
      release = c.number_at-release.ensures j;
      latest = c.number_or-latest.ensures j;
    })
