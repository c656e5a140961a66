use Rattle.tsn_model.proofs.EarlyRuns.{wanted_hold, no_lead_tolerated}
use Rattle.tsn_laws.proofs.definitions.wanted_gates_hold.Goals as goal

pub returns : goal.returns
returns c = λ network formed offsets valid gates wanted slack. (wanted_hold network formed offsets valid gates wanted slack, no_lead_tolerated network offsets slack)
