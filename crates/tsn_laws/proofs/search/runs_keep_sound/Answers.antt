use Rattle.tsn_model.proofs.Steps.{initial_sound}
use Rattle.tsn_laws.proofs.Runs.{step_sound, search_sound}
use Rattle.tsn_laws.proofs.search.runs_keep_sound.Goals as goal

pub returns : goal.returns
returns c = λ network formed. (initial_sound network formed, step_sound network formed, search_sound network formed)
