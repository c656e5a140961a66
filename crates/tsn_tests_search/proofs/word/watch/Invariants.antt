use Rattle.std.proofs.Common.{◌≡◌}
use Rattle.tsn_tests_search.specs.Numbers.{numbers_of}
use Rattle.tsn_tests_search.proofs.word.watch.Given as goal

abbrev pub invariant-loop-round : goal.invariant-loop-round
invariant-loop-round l = record {
  race : l.seat.race ≡ l.incumbent;
  numbers : numbers_of l.seat.standings ≡ numbers_of l.initial.seat.standings;
}
