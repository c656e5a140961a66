use Rattle.std.proofs.Common.{◌≡◌, ◌-◌, drop, map}
use Rattle.toml.specs.View.{view}
use Rattle.tsn_net.specs.DocumentView.{texts_view}
use Rattle.tsn_net.specs.Conditions.{followed}
use Rattle.tsn_net.specs.Matter.{first_quick}
use Rattle.tsn_net.proofs.routes.quick_in.Given as goal

-- the first quick step of the rest is that of the whole
abbrev pub invariant-loop-k : goal.invariant-loop-k
invariant-loop-k l =
    let nodes = map view l.document.nodes.now in
    let cables = map view l.document.cables.now in
    first_quick l.slack l.octets nodes cables (followed (drop (l.k - 2) (texts_view l.route)))
    ≡ first_quick l.slack l.octets nodes cables (followed (texts_view l.route))
