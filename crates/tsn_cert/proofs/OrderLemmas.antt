-- Orders that are printed are read again.
use Rattle.std.proofs.Common.{◌≡◌, ◌≤◌, ℕ, List, length, suc, Some, ap, ◌∙◌, w64, FitsSigned}
use Rattle.std.specs.Prelude.{ℤ, option_and_then, option_map, nat_le, ◌&&◌}
use Rattle.tsn_cert.specs.Json.{when}
use Rattle.tsn_cert.specs.Order.{order_parts, order_items, order_in, order_value, order_list, orders_of, orders_value, order_fits}
use Rattle.tsn_cert.specs.declared.order.Order.{Order}
use Rattle.tsn_cert.proofs.JsonLemmas.{listed-items_of_list, few_kept}
use Rattle.tsn_cert.proofs.Lags.{lag_back}
use Rattle.tsn_cert.proofs.Values.{IsWritten, AreWritten, both, one, array_written, number_written, lag_written}

pub order_written : {deep : ℕ} (o : Order) → AreWritten deep (order_fits o) (order_items o)
order_written o = both (both (both (one (number_written o.first)) (one (number_written o.second))) (one (number_written o.link))) (lag_written o.lag)

pub listed_order_written : {deep : ℕ} (o : Order) → IsWritten (suc deep) (order_fits o) (order_value o)
listed_order_written o = array_written (order_written o)

pub order_back : (o : Order) → FitsSigned w64 o.lag → order_in (order_value o) ≡ Some o
order_back o fits =
    ap order_parts (listed-items_of_list (order_items o))
    ∙ ap (λ z. option_map (λ (lag : ℤ). record { first = o.first; second = o.second; link = o.link; lag = lag }) z) (lag_back o.lag fits)

pub orders_back : (orders : List Order) → 1 ≤ length orders → length orders ≤ 128 → order_list (orders_value orders) ≡ Some orders
    → orders_of (orders_value orders) ≡ Some orders
orders_back orders some most back =
    ap (λ o. option_and_then (λ (xs : List Order). when (nat_le 1 (length xs) && nat_le (length xs) 128) (Some xs)) o) back
    ∙ few_kept 128 orders some most

-- where lists have one
