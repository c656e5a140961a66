use Rattle.tsn_cli.proofs.LawLemmas.{plan_files_agree}
use Rattle.tsn_cli.proofs.laws.plan_files_are_one.Goals as goal

pub returns : goal.returns
returns c = plan_files_agree
