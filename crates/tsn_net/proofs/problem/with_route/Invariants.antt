use Rattle.std.proofs.Common.{◌≡◌, ◌-◌, map, drop}
use Rattle.tsn_model.specs.Unions.{with_links}
use Rattle.tsn_net.specs.Conditions.{neighbours}
use Rattle.tsn_net.specs.DocumentView.{texts_view}
use Rattle.tsn_net.specs.Problem.{number_of, link_between}
use Rattle.tsn_timing.specs.ProblemView.{names_in}
use Rattle.tsn_net.proofs.problem.with_route.Given as goal

-- the links so far, with those along the rest, are those with all
abbrev pub invariant-loop-k : goal.invariant-loop-k
invariant-loop-k l =
    let numbers = map (number_of (names_in l.names.keys)) (texts_view l.route) in
    with_links l.along.items (map (link_between l.index.links.now) (neighbours (drop (l.k - 1) numbers)))
    ≡ with_links l.fn.along.items (map (link_between l.index.links.now) (neighbours numbers))
