use Rattle.tsn_cli.proofs.LawLemmas.{planned}
use Rattle.tsn_cli.proofs.laws.planned_is_accepted.Goals as goal

pub returns : goal.returns
returns c =
    planned c.first_faults_refute.ensures c.right_plans_fit.ensures c.certified_trees_fit.ensures c.plan_text_is_read.ensures c.certificate_text_is_read.ensures
