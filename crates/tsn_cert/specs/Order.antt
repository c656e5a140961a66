-- Orders of two streams on a link in the file of an argument.
--     order_row, order_form, orders_form     the grammar
--     order_fits                             the limits
--     order_items, order_value               the printed form
--     decision_of                            the decision that an order is
use Rattle.serde_json.specs.Data.{Data}
use Rattle.std.specs.Prelude.{ℕ, List, ◌∷◌, map, Bool, if◌then◌else◌, ◌&&◌, nat_le, Option}
use Rattle.tsn_cert.specs.Cert.{lag_row, max_number, lag_fits, lag_items}
use Rattle.tsn_cert.specs.Form.{Form, Row, number, becomes, array, next, list, few}
use Rattle.tsn_cert.specs.Json.{number_value, array_value}
use Rattle.tsn_cert.specs.declared.order.Order.{Order}
use Rattle.tsn_model.specs.declared.Decision.{Decision}
use Rattle.tsn_model.specs.declared.Side.TheVariants.{Left, Right}

-- two streams, a link and a lag
abbrev pub order_row : Row Order
order_row = next number (λ i. next number (λ j. next number (λ l. becomes (λ z. record { first = i; second = j; link = l; lag = z }) lag_row)))

abbrev pub order_parts : List Data → Option Order
order_parts = order_row.parts

abbrev pub order_form : Form Order
order_form = array order_row

abbrev pub order_in : Data → Option Order
order_in = order_form.said

abbrev pub order_list : Data → Option (List Order)
order_list = (list order_form).said

-- the most orders of a move
abbrev pub max_orders : ℕ
max_orders = 128

-- an array of 1 to 128 orders
abbrev pub orders_form : Form (List Order)
orders_form = few 1 max_orders order_form

abbrev pub orders_of : Data → Option (List Order)
orders_of = orders_form.said

abbrev pub order_fits : Order → Bool
order_fits o = nat_le o.first max_number && nat_le o.second max_number && nat_le o.link max_number && lag_fits o.lag

abbrev pub order_items : Order → List Data
order_items o = number_value o.first ∷ number_value o.second ∷ number_value o.link ∷ lag_items o.lag

abbrev pub order_value : Order → Data
order_value order = array_value (order_items order)

abbrev pub orders_value : List Order → Data
orders_value orders = array_value (map order_value orders)

-- the first stream goes before the second: on the left is the one of the lesser number, and the lag is the right one's less the left one's
abbrev pub decision_of : Order → Decision
decision_of order =
    if nat_le order.first order.second then record { triple = record { left = order.first; right = order.second; link = order.link; lag = order.lag }; side = Left }
    else record { triple = record { left = order.second; right = order.first; link = order.link; lag = order.lag }; side = Right }
