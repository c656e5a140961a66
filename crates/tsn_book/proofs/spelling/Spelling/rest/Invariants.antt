use Rattle.std.proofs.Common.{◌≡◌, ◌++◌, map, length}
use Rattle.tsn_cert.specs.Node.{tree_node}
use Rattle.tsn_book.proofs.spelling.Spelling.rest.Given as goal

abbrev pub invariant-loop-nodes : goal.invariant-loop-nodes
invariant-loop-nodes l = map tree_node l.nodes.items ++ l.self.nodes ≡ l.fn.self.nodes

abbrev pub decreases-loop-nodes : goal.decreases-loop-nodes
decreases-loop-nodes l = length l.self.nodes
