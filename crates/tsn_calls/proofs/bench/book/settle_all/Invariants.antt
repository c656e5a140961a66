use Rattle.std.proofs.Common.{◌≡◌}
use Rattle.tsn_calls.proofs.bench.book.settle_all.Given as goal

abbrev pub invariant-loop-batch : goal.invariant-loop-batch
invariant-loop-batch g l = l.book.tellers ≡ l.fn.book.tellers
