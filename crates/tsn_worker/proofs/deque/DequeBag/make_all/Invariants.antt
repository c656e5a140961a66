use Rattle.std.proofs.Common.{◌≡◌, vec_len}
use Rattle.tsn_worker.proofs.deque.DequeBag.make_all.Given as goal

abbrev pub invariant-loop-worker : goal.invariant-loop-worker
invariant-loop-worker l = vec_len l.bags ≡ l._worker
