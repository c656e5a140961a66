use Rattle.tsn_model.proofs.Held.{keeps_offsets}
use Rattle.tsn_net.specs.Problem.{free_network_of, offsets_of}
use Rattle.tsn_net.proofs.WellFormed.{well_formed}
use Rattle.tsn_laws.proofs.Offsets.{free}
use Rattle.tsn_laws.proofs.network_files.offsets_are_kept.Goals as goal

pub returns : goal.returns
returns c = λ d none offsets. keeps_offsets (free_network_of d) (offsets_of d) (free d none) offsets (well_formed d none)
