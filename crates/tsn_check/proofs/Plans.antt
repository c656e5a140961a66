-- A wrong plan isn't right, and is wrong in one way.
use Rattle.std.proofs.Common.{◌≡◌, ℕ, List, inl, inr, sym, ◌∙◌}
use Rattle.tsn_model.specs.Network.{Network}
use Rattle.tsn_model.proofs.Validity.{violation_refutes, violation_once}
use Rattle.tsn_cert.specs.declared.plan.Plan.{Plan}
use Rattle.tsn_cert.specs.declared.plan.Plan.TheVariants as plan
use Rattle.tsn_check.specs.Plans.{IsPlanRight}
use Rattle.tsn_check.specs.Faults.{IsWrongSchedule, IsWrongClaim}
use Rattle.tsn_check.specs.declared.why.PlanFault.{PlanFault}
use Rattle.tsn_check.specs.declared.why.PlanFault.TheVariants as of_plan

schedule_refutes : (network : Network) (stated : ℕ) (offsets : List ℕ) (fault : PlanFault) → IsWrongSchedule network stated offsets fault
    → IsPlanRight network (plan.Schedule stated offsets) → ⊥
schedule_refutes network stated offsets fault (inl invalid) right = violation_refutes network offsets invalid.0 invalid.1 right.0
schedule_refutes network stated offsets fault (inr off) right = off.1 right.1

pub claim_refutes : (network : Network) (p : Plan) (fault : PlanFault) → IsWrongClaim network p fault → IsPlanRight network p → ⊥
claim_refutes network (plan.Schedule stated offsets) fault wrong right = schedule_refutes network stated offsets fault wrong right
claim_refutes network plan.None fault wrong right = wrong

one_schedule : (network : Network) (stated : ℕ) (offsets : List ℕ) (a b : PlanFault) → IsWrongSchedule network stated offsets a
    → IsWrongSchedule network stated offsets b → a ≡ b
one_schedule network stated offsets a b (inl one) (inl two) = cc (one.2, violation_once network offsets one.0 two.0 one.1 two.1, two.2)
one_schedule network stated offsets a b (inl one) (inr two) = absurd (violation_refutes network offsets one.0 one.1 two.0)
one_schedule network stated offsets a b (inr one) (inl two) = absurd (violation_refutes network offsets two.0 two.1 one.0)
one_schedule network stated offsets a b (inr one) (inr two) = one.2 ∙ sym two.2

pub one_claim : (network : Network) (p : Plan) (a b : PlanFault) → IsWrongClaim network p a → IsWrongClaim network p b → a ≡ b
one_claim network (plan.Schedule stated offsets) a b one two = one_schedule network stated offsets a b one two
one_claim network plan.None a b one two = absurd one
