use Rattle.std.proofs.Common.{◌≡◌, length}
use Rattle.tsn_walk.proofs.Batching.{IsCollecting}
use Rattle.tsn_walk.proofs.below.Below.collect.Given as goal

abbrev pub invariant-loop : goal.invariant-loop
invariant-loop l = record {
  from : l.self.from ≡ l.initial.self.from;
  collecting : IsCollecting l.tables.timing.now l.tables.conflicts.now.triples l.incumbent.seen l.initial.self.from l.looks l.self.descent;
  long : length l.looks ≡ l.counter;
}
