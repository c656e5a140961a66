use Rattle.tsn_model.proofs.EarlyRuns.{intact_in_time}
use Rattle.tsn_laws.proofs.definitions.early_frames_survive.Goals as goal

pub returns : goal.returns
returns c = λ network formed offsets valid gates has failed slack lead holds tolerates cycles ready run is.
    intact_in_time network formed offsets valid cycles gates has failed slack ready run is lead holds tolerates
