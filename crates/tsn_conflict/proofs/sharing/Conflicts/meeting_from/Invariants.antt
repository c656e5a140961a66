use Rattle.std.proofs.Common.{◌≡◌, length}
use Rattle.tsn_conflict.specs.Pairs.{AreApartBetween}
use Rattle.tsn_conflict.proofs.sharing.Conflicts.meeting_from.Given as goal

abbrev pub invariant-loop-number : goal.invariant-loop-number
invariant-loop-number l = record {
  end : l.number-end ≡ length l.self.triples;
  apart : AreApartBetween l.self l.offsets l.fn.start l.number;
}
