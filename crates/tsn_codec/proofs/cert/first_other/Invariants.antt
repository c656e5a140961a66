use Rattle.std.proofs.Common.{◌≡◌, drop, not}
use Rattle.std.specs.Prelude.{position}
use Rattle.std.specs.List.{position_from}
use Rattle.tsn_cert.specs.Node.{tree_node}
use Rattle.tsn_codec.specs.Matter.{is_of}
use Rattle.tsn_codec.proofs.cert.first_other.Given as goal

-- the first of the rest that is of another format, counted from there, is that of all
abbrev pub invariant-loop-number : goal.invariant-loop-number
invariant-loop-number l =
    position_from (λ node. not (is_of l.format (tree_node node))) l.number (drop l.number l.nodes)
    ≡ position (λ node. not (is_of l.format (tree_node node))) l.nodes
