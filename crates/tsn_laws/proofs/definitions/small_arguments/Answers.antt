use Rattle.tsn_laws.proofs.SmallArguments as shown
use Rattle.tsn_laws.proofs.definitions.small_arguments.Goals as goal

pub returns : goal.returns
returns c = shown.small_arguments
