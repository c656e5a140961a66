use Rattle.std.proofs.Common.{◌≡◌, ◌<◌, length}
use Rattle.tsn_walk.proofs.open_nodes.OpenNodes.deal.Given as goal

abbrev pub invariant-loop-node : goal.invariant-loop-node
invariant-loop-node g l = record {
  left : l.number ≡ length l.node-iterator.rest.items;
  some : 0 < length l.bags;
}
