use Rattle.tsn_model.proofs.Soundness.{sum-le-offset}
use Rattle.tsn_laws.proofs.definitions.chains_bound_offsets.Goals as goal

pub returns : goal.returns
returns c = λ network offsets valid path held chain i is_chain. sum-le-offset network offsets valid path held chain i is_chain
