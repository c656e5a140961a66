use Rattle.tsn_answer.proofs.ShownPlans.{never_both}
use Rattle.tsn_laws.proofs.answers.proved_is_not_undercut.Goals as goal

pub returns : goal.returns
returns c = never_both
