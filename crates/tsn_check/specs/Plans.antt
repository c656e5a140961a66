-- What a plan says of its network.
--     offsets_in, span_in                its offsets and its flowspan
--     IsPlanRight                        a valid schedule with its own flowspan, or that there is none
--     IsOptimalPlan, IsFirstPlan         the schedule is optimal, and the first optimal one
use Rattle.std.specs.Prelude.{◌≡◌, ℕ, List, Option, Some, None}
use Rattle.tsn_model.specs.Network.{Network}
use Rattle.tsn_model.specs.Schedule.{IsValid, flowspan, IsOptimal, IsFirst}
use Rattle.tsn_cert.specs.declared.plan.Plan.{Plan}
use Rattle.tsn_cert.specs.declared.plan.Plan.TheVariants as plan

-- the offsets of the plan, if it is a schedule
abbrev pub offsets_in : Plan → Option (List ℕ)
offsets_in (plan.Schedule span offsets) = Some offsets
offsets_in plan.None = None

-- its flowspan, 0 where it is that there is no schedule
abbrev pub span_in : Plan → ℕ
span_in (plan.Schedule span offsets) = span
span_in plan.None = 0

-- the plan is a valid schedule with its own flowspan, or that there is none
abbrev pub IsPlanRight : Network → Plan → Type 0
IsPlanRight network (plan.Schedule span offsets) = IsValid network offsets × (span ≡ flowspan network offsets)
IsPlanRight network plan.None = Unit {0}

-- the plan is a schedule whose flowspan no valid schedule undercuts
abbrev pub IsOptimalPlan : Network → Plan → Type 0
IsOptimalPlan network (plan.Schedule span offsets) = IsOptimal network offsets × (span ≡ flowspan network offsets)
IsOptimalPlan network plan.None = ⊥

-- the plan is a schedule of such a flowspan, and comes before every other one
abbrev pub IsFirstPlan : Network → Plan → Type 0
IsFirstPlan network (plan.Schedule span offsets) = IsFirst network offsets × (span ≡ flowspan network offsets)
IsFirstPlan network plan.None = ⊥
