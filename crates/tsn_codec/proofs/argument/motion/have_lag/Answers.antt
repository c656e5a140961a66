use Rattle.std.proofs.Common.{◌≡◌, pos, true, false, get_or, arith}
use Rattle.std.proofs.lemmas.Grind.{common_steps}
use Rattle.std.proofs.lemmas.List.{drop_more}
use Rattle.tsn_model.proofs.Rest.{any_here, any_later, any_past}
use Rattle.tsn_cert.specs.declared.order.Order.{Order}
use Rattle.tsn_codec.specs.Matter.{order_lags}
use Rattle.tsn_codec.proofs.argument.motion.have_lag.Goals as goal

pub returns-then-order-ne0 : goal.returns-then-order-ne0
returns-then-order-ne0 c =
    let orders = c.args.orders.now in
    let number = c.loop-order.order-index in
    let none : Order = record { first = 0; second = 0; link = 0; lag = pos 0 } in
    let lags : order_lags (get_or orders number none) ≡ true = grind (arith, common_steps) in
    any_here order_lags _ _ _ (drop_more orders number none c.loop-order-test.true) _ lags c.loop-order.invariant

pub loop-order-preserved : goal.loop-order-preserved
loop-order-preserved c =
    let orders = c.args.orders.now in
    let number = c.loop-order.order-index in
    let none : Order = record { first = 0; second = 0; link = 0; lag = pos 0 } in
    let lags : order_lags (get_or orders number none) ≡ false = grind (arith, common_steps) in
    any_later order_lags _ _ _ (drop_more orders number none c.loop-order-test.true) _ lags c.loop-order.invariant

pub returns : goal.returns
returns c = any_past order_lags c.args.orders.now c.loop-order.order-index c.loop-order-test.false _ c.loop-order.invariant
