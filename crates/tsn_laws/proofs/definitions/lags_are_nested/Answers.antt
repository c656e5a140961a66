use Rattle.tsn_model.proofs.Overlaps.{nested}
use Rattle.tsn_laws.proofs.definitions.lags_are_nested.Goals as goal

pub returns : goal.returns
returns c = nested
