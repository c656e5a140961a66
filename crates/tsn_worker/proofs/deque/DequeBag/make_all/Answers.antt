use Rattle.std.proofs.Common.{arith}
use Rattle.std.proofs.lemmas.Grind.{common_steps}
use Rattle.tsn_worker.proofs.deque.DequeBag.make_all.Goals as goal

pub loop-bag-init : goal.loop-bag-init
loop-bag-init c = grind (arith, common_steps) steps 2000000
