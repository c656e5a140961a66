use Rattle.tsn_model.proofs.ArgumentMoves.{Fits-narrowed}
use Rattle.tsn_laws.proofs.definitions.moves_keep_what_fits.Goals as goal

pub returns : goal.returns
returns c = Fits-narrowed
