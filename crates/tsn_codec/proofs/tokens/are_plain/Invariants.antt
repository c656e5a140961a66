use Rattle.std.proofs.Common.{length}
use Rattle.tsn_codec.specs.Written.{ArePlain}
use Rattle.tsn_codec.proofs.tokens.are_plain.Given as goal

abbrev pub invariant-tokens : goal.invariant-tokens
invariant-tokens l = ArePlain l.reader → ArePlain l.initial.reader

abbrev pub decreases-tokens : goal.decreases-tokens
decreases-tokens l = length l.reader
