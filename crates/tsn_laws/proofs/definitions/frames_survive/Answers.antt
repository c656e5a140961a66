use Rattle.tsn_model.proofs.OnTime.{starts_intact}
use Rattle.tsn_laws.proofs.definitions.frames_survive.Goals as goal

pub returns : goal.returns
returns c = λ network formed offsets valid gates has cycles failed run is. starts_intact network formed offsets valid gates has cycles failed run is
