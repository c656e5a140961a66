use Rattle.std.proofs.Common.{◌≡◌, drop, not, map}
use Rattle.std.specs.List.{find}
use Rattle.toml.specs.View.{view}
use Rattle.tsn_net.specs.DocumentView.{texts_view}
use Rattle.tsn_net.specs.Conditions.{has_name}
use Rattle.tsn_net.proofs.names.unknown_in.Given as goal

-- the first of the rest that fails is that of all
abbrev pub invariant-loop-value : goal.invariant-loop-value
invariant-loop-value l =
    find (λ n. not (has_name (map view l.document.nodes.now) n)) (texts_view (drop l.value-index l.names))
    ≡ find (λ n. not (has_name (map view l.document.nodes.now) n)) (texts_view l.names)
