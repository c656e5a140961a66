use Rattle.std.proofs.Common.{◌≡◌}
use Rattle.tsn_calls.proofs.bench.book.settle.Given as goal

abbrev pub invariant-loop-node : goal.invariant-loop-node
invariant-loop-node g l =
    (l.book.tellers ≡ l.fn.book.tellers) × (goal.iterator-loop-node g).can_next l.node-iterator ×
    (goal.iterator-loop-node g).is_finite l.node-iterator
