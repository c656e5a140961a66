use Rattle.std.proofs.lemmas.Result.{on_ok_weaker}
use Rattle.tsn_cert.proofs.OrderLemmas.{orders_back}
use Rattle.tsn_codec.proofs.Elements.{map_same}
use Rattle.tsn_codec.proofs.argument.parts.orders_value.Goals as goal

pub returns-clause-reads_back : goal.returns-clause-reads_back
returns-clause-reads_back c =
    let is = c.list.ensures.parts in
    on_ok_weaker c.array_of.result
    (orders_back c.args.orders.now (rw is at c.list.ensures.some) (rw is at c.list.ensures.few))
    (rw is at (rw (map_same c.list.result.now) at c.array_of.ensures.reads_back))
