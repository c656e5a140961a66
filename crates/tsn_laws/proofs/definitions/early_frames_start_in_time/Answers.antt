use Rattle.tsn_model.proofs.EarlyRuns.{starts_in_time}
use Rattle.tsn_laws.proofs.definitions.early_frames_start_in_time.Goals as goal

pub returns : goal.returns
returns c = λ network formed offsets valid gates has slack lead holds tolerates cycles ready run is. starts_in_time network formed offsets valid cycles gates has slack ready run is lead holds tolerates
