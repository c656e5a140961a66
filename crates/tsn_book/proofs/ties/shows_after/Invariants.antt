use Rattle.tsn_model.specs.Certificate.{SumsAre}
use Rattle.tsn_book.proofs.ties.shows_after.Given as goal

abbrev pub invariant-loop-stream : goal.invariant-loop-stream
invariant-loop-stream l = SumsAre l.timing l.path l.chains l.offsets l.stream
