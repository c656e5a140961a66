use Rattle.tsn_conflict.specs.Pairs.{numbers_in}
use Rattle.tsn_conflict.proofs.ByStream.{AreFirst}
use Rattle.tsn_conflict.proofs.numbers.numbers_of.Given as goal

abbrev pub invariant-loop-number : goal.invariant-loop-number
invariant-loop-number l = AreFirst l.triples l.streams l.number (numbers_in l.lists.items)
