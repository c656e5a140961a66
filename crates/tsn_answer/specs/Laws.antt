-- The law of answers, the contract of a function in `tsn_laws/src/answers.rt`.
use Rattle.std.specs.Prelude.{◌≡◌, ℕ}
use Rattle.tsn_model.specs.Network.{Network}
use Rattle.tsn_cert.specs.declared.plan.Plan.{Plan}
use Rattle.tsn_cert.specs.declared.certificate.Certificate.{Certificate}
use Rattle.tsn_answer.specs.declared.answer.Answer.TheVariants.{Optimal}
use Rattle.tsn_answer.specs.Optimum.{AnswersOptimum}

-- two optimal answers to one network, whatever their certificates and counts, have the same plan
abbrev pub OptimalPlansAreOne : Type 0
OptimalPlansAreOne = (network : Network) (plan other : Plan) (certificate other_certificate : Certificate) (count other_count : ℕ)
    → AnswersOptimum network (Optimal plan certificate count) → AnswersOptimum network (Optimal other other_certificate other_count) → plan ≡ other
