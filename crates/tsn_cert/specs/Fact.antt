-- Facts and clauses in the file of an argument.
--     facts, clause_form             the grammar
--     fact_fits                      the limits
--     fact_value, clause_value       the printed form
--     fact_of, clause_of             what they mean
use Rattle.serde_json.specs.Data.{Data}
use Rattle.std.specs.Prelude.{ℕ, List, [], ◌∷◌, map, Bool, ◌&&◌, nat_le, codes, Option, pos}
use Rattle.tsn_cert.specs.Cert.{max_number}
use Rattle.tsn_cert.specs.Form.{Form, Row, number, becomes, next, over, one_of, list, number_row}
use Rattle.tsn_cert.specs.Json.{number_value, array_value, worded_value}
use Rattle.tsn_cert.specs.Order.{order_row, order_fits, order_items, decision_of}
use Rattle.tsn_cert.specs.Plan.{max_time}
use Rattle.tsn_cert.specs.declared.fact.Fact.TheVariants as fact
use Rattle.tsn_cert.specs.declared.fact.Fact.{Fact}
use Rattle.tsn_cert.specs.declared.order.Order.{Order}
use Rattle.tsn_model.specs.Argument as model

-- a stream and a time
abbrev pub bound_row : Row (ℕ × ℕ)
bound_row = next number (λ i. next number (λ v. over (i, v)))

-- the facts: a word, and what stands behind it
abbrev pub facts : List (List ℕ × Row Fact)
facts =
    (codes "from", becomes (λ b. fact.From b.0 b.1) bound_row)
    ∷ (codes "until", becomes (λ b. fact.Until b.0 b.1) bound_row)
    ∷ (codes "order", becomes fact.Order order_row)
    ∷ (codes "done_from", becomes fact.DoneFrom number_row)
    ∷ (codes "done_until", becomes fact.DoneUntil number_row)
    ∷ []

abbrev pub fact_form : Form Fact
fact_form = one_of facts

abbrev pub fact_in : Data → Option Fact
fact_in = fact_form.said

abbrev pub clause_form : Form (List Fact)
clause_form = list fact_form

abbrev pub clause_in : Data → Option (List Fact)
clause_in = clause_form.said

abbrev pub fact_fits : Fact → Bool
fact_fits (fact.From stream time) = nat_le stream max_number && nat_le time max_time
fact_fits (fact.Until stream time) = nat_le stream max_number && nat_le time max_time
fact_fits (fact.Order order) = order_fits order
fact_fits (fact.DoneFrom time) = nat_le time max_time
fact_fits (fact.DoneUntil time) = nat_le time max_time

abbrev pub fact_value : Fact → Data
fact_value (fact.From stream time) = worded_value (codes "from") (number_value stream ∷ number_value time ∷ [])
fact_value (fact.Until stream time) = worded_value (codes "until") (number_value stream ∷ number_value time ∷ [])
fact_value (fact.Order order) = worded_value (codes "order") (order_items order)
fact_value (fact.DoneFrom time) = worded_value (codes "done_from") (number_value time ∷ [])
fact_value (fact.DoneUntil time) = worded_value (codes "done_until") (number_value time ∷ [])

abbrev pub clause_value : List Fact → Data
clause_value clause = array_value (map fact_value clause)

abbrev pub fact_of : Fact → model.Fact
fact_of (fact.From i v) = model.from i (pos v)
fact_of (fact.Until i v) = model.until i (pos v)
fact_of (fact.Order order) = model.order (decision_of order)
fact_of (fact.DoneFrom v) = model.done_from (pos v)
fact_of (fact.DoneUntil v) = model.done_until (pos v)

abbrev pub clause_of : List Fact → List model.Fact
clause_of clause = map fact_of clause
