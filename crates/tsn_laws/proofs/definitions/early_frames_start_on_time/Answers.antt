use Rattle.tsn_model.proofs.OnTime.{early_starts_on_time}
use Rattle.tsn_laws.proofs.definitions.early_frames_start_on_time.Goals as goal

pub returns : goal.returns
returns c = early_starts_on_time
