use Rattle.std.proofs.Common.{subst}
use Rattle.std.proofs.lemmas.Result.{IfOk-weaker}
use Rattle.tsn_answer.specs.Answer.{IsFound, IsFoundBy}
use Rattle.tsn_planner.proofs.answering.answer_of.Goals as goal

pub returns-in-Finished-clause-method : goal.returns-in-Finished-clause-method
returns-in-Finished-clause-method c = IfOk-weaker c.certify.result _ _ (λ answer by effort found. by effort) c.certify.ensures.method

pub returns-in-Finished-clause-optimum : goal.returns-in-Finished-clause-optimum
returns-in-Finished-clause-optimum c =
    IfOk-weaker c.certify.result _ _ (λ answer finds network limit found. finds network limit (subst (IsFound network limit) c.in-Finished.is found))
    c.certify.ensures.optimum

pub returns-in-Finished-clause-read_again : goal.returns-in-Finished-clause-read_again
returns-in-Finished-clause-read_again c = IfOk-weaker c.certify.result _ _ (λ answer again network limit found. again) c.certify.ensures.read_again

pub returns-in-Argued-clause-optimum : goal.returns-in-Argued-clause-optimum
returns-in-Argued-clause-optimum c = λ network limit found. c.argued.ensures.optimum network limit (subst (IsFound network limit) c.in-Argued.is found)

pub returns-in-Argued-clause-shown : goal.returns-in-Argued-clause-shown
returns-in-Argued-clause-shown c = λ network limit found. c.argued.ensures.shown network limit (subst (IsFound network limit) c.in-Argued.is found)

pub returns-in-Argued-clause-read_again : goal.returns-in-Argued-clause-read_again
returns-in-Argued-clause-read_again c = λ network limit found. c.argued.ensures.read_again network limit (subst (IsFound network limit) c.in-Argued.is found)

pub returns-in-Argued-clause-method : goal.returns-in-Argued-clause-method
returns-in-Argued-clause-method c = λ effort found. c.argued.ensures.method effort (subst (IsFoundBy effort) c.in-Argued.is found)

pub returns-in-Stopped-clause-shown : goal.returns-in-Stopped-clause-shown
returns-in-Stopped-clause-shown c = λ network limit found. (subst (IsFound network limit) c.in-Stopped.is found).stopped
