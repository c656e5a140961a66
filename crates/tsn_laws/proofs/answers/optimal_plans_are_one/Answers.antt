use Rattle.tsn_answer.proofs.Agreeing.{first_plan_once}
use Rattle.tsn_laws.proofs.answers.optimal_plans_are_one.Goals as goal

pub returns : goal.returns
returns c = λ network plan other cert other_cert count other_count first second. first_plan_once network plan other first second
