use Rattle.tsn_model.proofs.Shifts.{single_period, single_shift, single_spread}
use Rattle.tsn_laws.proofs.definitions.single_frames_stay.Goals as goal

pub returns : goal.returns
returns c = λ network i turn frame. (single_period network i turn, single_shift network i turn frame, single_spread network i frame)
