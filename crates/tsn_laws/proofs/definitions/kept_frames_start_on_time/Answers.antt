use Rattle.tsn_model.proofs.OnTime.{starts_on_time}
use Rattle.tsn_laws.proofs.definitions.kept_frames_start_on_time.Goals as goal

pub returns : goal.returns
returns c = λ network formed offsets valid gates has cycles run is. starts_on_time network formed offsets valid gates has cycles run is
