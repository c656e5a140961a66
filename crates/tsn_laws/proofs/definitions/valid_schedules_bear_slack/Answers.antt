use Rattle.tsn_model.proofs.OnTime.{slack_tolerated, early_starts_on_time}
use Rattle.tsn_laws.proofs.definitions.valid_schedules_bear_slack.Goals as goal

pub returns : goal.returns
returns c = λ network formed offsets valid. (
  slack_tolerated network formed offsets valid,
  λ gates wanted. early_starts_on_time network formed offsets valid gates wanted (λ link. network.slack) (slack_tolerated network formed offsets valid),
)
