use Rattle.std.proofs.Common.{◌≡◌, ◌⊎◌, Some, None, subst}
use Rattle.std.specs.Prelude.{IfOk, IfErr}
use Rattle.tsn_net.specs.Conditions.{fault_of}
use Rattle.tsn_net.specs.Problem.{problem_of}
use Rattle.tsn_net.specs.File.{out_of_memory}
use Rattle.tsn_net.proofs.read.problem_in.Goals as goal

pub returns-in-Ok-clause-problem : goal.returns-in-Ok-clause-problem
returns-in-Ok-clause-problem c =
    subst (λ d. IfOk c.stated.result (λ problem. (fault_of d ≡ None) × (problem ≡ problem_of d))) c.in-Ok.ensures c.stated.ensures.problem

pub returns-in-Ok-clause-fault : goal.returns-in-Ok-clause-fault
returns-in-Ok-clause-fault c =
    subst (λ d. IfErr c.stated.result (λ refused. (refused.fault ≡ out_of_memory) ⊎ (fault_of d ≡ Some refused.fault))) c.in-Ok.ensures c.stated.ensures.fault
