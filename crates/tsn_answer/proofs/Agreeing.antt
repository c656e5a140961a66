-- The first optimal schedule is one, and so is its plan.
use Rattle.std.proofs.Common.{◌≡◌, sym, ap, ◌∙◌}
use Rattle.tsn_model.specs.Network.{Network}
use Rattle.tsn_model.specs.Schedule.{flowspan}
use Rattle.tsn_model.proofs.Firsts.{first_once}
use Rattle.tsn_cert.specs.declared.plan.Plan.{Plan}
use Rattle.tsn_cert.specs.declared.plan.Plan.TheVariants as plan
use Rattle.tsn_check.specs.Plans.{IsFirstPlan}

-- two plans that are the first one of a network are the same
pub first_plan_once : (network : Network) (whole other : Plan) → IsFirstPlan network whole → IsFirstPlan network other → whole ≡ other
first_plan_once network (plan.Schedule span offsets) (plan.Schedule other_span others) first second =
    let same = first_once network offsets others first.0 second.0 in
    let spans : span ≡ other_span = first.1 ∙ ap (flowspan network) same ∙ sym second.1 in
    ap (λ s. plan.Schedule s offsets) spans ∙ ap (plan.Schedule other_span) same
first_plan_once network (plan.Schedule span offsets) plan.None first second = absurd second
first_plan_once network plan.None other first second = absurd first
