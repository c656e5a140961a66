use Rattle.std.proofs.Common.{◌≡◌, ◌-◌, drop, map}
use Rattle.toml.specs.View.{view}
use Rattle.tsn_net.specs.DocumentView.{texts_view}
use Rattle.tsn_net.specs.Conditions.{neighbours}
use Rattle.tsn_net.specs.Matter.{first_gap}
use Rattle.tsn_net.proofs.routes.gap_in.Given as goal

-- the first gap of the rest is that of the whole
abbrev pub invariant-loop-k : goal.invariant-loop-k
invariant-loop-k l =
    first_gap (map view l.document.cables.now) (neighbours (drop (l.k - 1) (texts_view l.route))) ≡ first_gap
    (map view l.document.cables.now) (neighbours (texts_view l.route))
