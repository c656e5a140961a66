use Rattle.std.proofs.Common.{◌≡◌, []}
use Rattle.tsn_incumbent.specs.Halves.{halves_from, rest_from}
use Rattle.tsn_incumbent.proofs.halves.Halves.deal_all.Given as goal

abbrev pub invariant-loop-number : goal.invariant-loop-number
invariant-loop-number l = record {
  table : l.rest.table_id ≡ l.self;
  rest : l.rest.me ≡ (rest_from l._number l.fn.rest.me.0.tally, []);
  dealt : l.all.items ≡ halves_from l.self l.fn.rest.me.0.tally 0 l._number;
}
