use Rattle.tsn_incumbent.proofs.Sharing.{begins}
use Rattle.tsn_incumbent.proofs.halves.Halves.new.Goals as goal

pub of_words-requires : goal.of_words-requires
of_words-requires c = begins _
