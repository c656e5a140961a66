-- Facts that are printed are read again.
use Rattle.std.proofs.Common.{◌≡◌, Some, refl, ap}
use Rattle.std.specs.Prelude.{List, option_map}
use Rattle.tsn_cert.specs.Order.{order_in, order_value}
use Rattle.tsn_cert.specs.Fact.{fact_in, fact_value, clause_value, fact_fits}
use Rattle.std.specs.List.{list_all}
use Rattle.tsn_cert.specs.declared.order.Order.{Order}
use Rattle.tsn_cert.specs.declared.fact.Fact.{Fact}
use Rattle.tsn_cert.specs.declared.fact.Fact.TheVariants as fact
use Rattle.tsn_cert.proofs.OrderLemmas.{order_written}
use Rattle.tsn_cert.proofs.Values.{IsWritten, both, one, word_written, list_written, number_written, time_written}

fact_written : (f : Fact) → IsWritten 1 (fact_fits f) (fact_value f)
fact_written (fact.From stream time) = word_written _ refl (both (one (number_written stream)) (one (time_written time)))
fact_written (fact.Until stream time) = word_written _ refl (both (one (number_written stream)) (one (time_written time)))
fact_written (fact.Order order) = word_written _ refl (order_written order)
fact_written (fact.DoneFrom time) = word_written _ refl (one (time_written time))
fact_written (fact.DoneUntil time) = word_written _ refl (one (time_written time))

pub clause_written : (clause : List Fact) → IsWritten 2 (list_all fact_fits clause) (clause_value clause)
clause_written clause = list_written fact_fits fact_value fact_written clause

pub order_fact_back : (o : Order) → order_in (order_value o) ≡ Some o → fact_in (fact_value (fact.Order o)) ≡ Some (fact.Order o)
order_fact_back o back = ap (option_map fact.Order) back

-- where lists have one
