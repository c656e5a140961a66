use Rattle.std.proofs.Common.{◌≡◌}
use Rattle.std.specs.Prelude.{replicate}
use Rattle.tsn_model.specs.Search.{tally_as}
use Rattle.tsn_book.proofs.book.tallies_of.Given as goal

abbrev pub invariant-loop : goal.invariant-loop
invariant-loop l = l.tallies.items ≡ replicate l.counter (tally_as 0 l.past_cycle l.past_cycle)
