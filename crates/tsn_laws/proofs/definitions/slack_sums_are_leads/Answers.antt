use Rattle.tsn_model.proofs.OnTime.{sums_hold, sums_hold_without, readiness_sum, sum_sent, sum_continues}
use Rattle.tsn_laws.proofs.definitions.slack_sums_are_leads.Goals as goal

pub returns : goal.returns
returns c = λ network formed offsets gates slack. (
  sums_hold network formed slack offsets gates,
  sums_hold_without network formed slack offsets gates,
  λ cycles passage is. (readiness_sum network formed slack cycles passage is, sum_sent network formed slack cycles passage is, sum_continues network formed slack cycles passage is),
)
