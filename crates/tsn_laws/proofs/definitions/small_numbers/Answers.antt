use Rattle.tsn_laws.proofs.Small.{small_numbers}
use Rattle.tsn_laws.proofs.definitions.small_numbers.Goals as goal

pub returns : goal.returns
returns c = small_numbers
