use Rattle.tsn_model.proofs.Held.{keeps_offsets}
use Rattle.tsn_laws.proofs.definitions.held_streams_keep_offsets.Goals as goal

pub returns : goal.returns
returns c = λ network had formed free offsets. keeps_offsets network had free offsets formed
