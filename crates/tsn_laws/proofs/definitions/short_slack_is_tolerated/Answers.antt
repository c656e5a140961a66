use Rattle.tsn_model.proofs.OnTime.{short_tolerated, short_lead_tolerated}
use Rattle.tsn_laws.proofs.definitions.short_slack_is_tolerated.Goals as goal

pub returns : goal.returns
returns c = λ network formed offsets valid. (short_tolerated network formed offsets valid, short_lead_tolerated network formed offsets valid)
