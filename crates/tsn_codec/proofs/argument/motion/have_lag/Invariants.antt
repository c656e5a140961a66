use Rattle.std.proofs.Common.{◌≡◌, drop}
use Rattle.std.specs.List.{list_any}
use Rattle.tsn_codec.specs.Matter.{order_lags}
use Rattle.tsn_codec.proofs.argument.motion.have_lag.Given as goal

-- whether one of the rest has a lag is whether one of all has
abbrev pub invariant-loop-order : goal.invariant-loop-order
invariant-loop-order l = list_any order_lags (drop l.order-index l.orders) ≡ list_any order_lags l.orders
