use Rattle.std.proofs.Common.{map}
use Rattle.tsn_cert.specs.Order.{decision_of}
use Rattle.tsn_argue.specs.State.{view_of}
use Rattle.tsn_argue.proofs.MotionLemmas.{IsWalked}
use Rattle.tsn_argue.proofs.motion.weight_round.Given as goal

abbrev pub invariant-loop-order : goal.invariant-loop-order
invariant-loop-order l = IsWalked l.view.timing.now (view_of l.view) l.start (map decision_of l.orders) l.order-index l.at l.weight
