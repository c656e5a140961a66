use Rattle.tsn_codec.proofs.PlanLemmas.{plan_text_read}
use Rattle.tsn_codec.proofs.laws.plan_text_is_read.Goals as goal

pub returns : goal.returns
returns c = plan_text_read
