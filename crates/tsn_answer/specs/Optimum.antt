-- What a planner is for.
--     IsFoundPlan        a plan says what is so of the network
--     FindsOptimum       so does what a search leaves
--     AnswersOptimum     and so does an answer
use Rattle.std.specs.Prelude.{MatchOption}
use Rattle.tsn_model.specs.Network.{Network}
use Rattle.tsn_model.specs.Schedule.{IsFirst, HasNoSchedule}
use Rattle.tsn_model.specs.Search.{kept_of}
use Rattle.tsn_cert.specs.declared.plan.Plan.{Plan}
use Rattle.tsn_cert.specs.declared.plan.Plan.TheVariants.{Schedule, None}
use Rattle.tsn_check.specs.Plans.{IsFirstPlan}
use Rattle.tsn_answer.specs.declared.found.Found.{Found}
use Rattle.tsn_answer.specs.declared.found.Found.TheVariants.{Finished, Argued, Stopped, GaveUp}
use Rattle.tsn_answer.specs.declared.answer.Answer.{Answer}
use Rattle.tsn_answer.specs.declared.answer.Answer.TheVariants as answer

-- the first optimal schedule, with its flowspan, or that there is none
abbrev pub IsFoundPlan : Network → Plan → Type 0
IsFoundPlan network (Schedule span offsets) = IsFirstPlan network (Schedule span offsets)
IsFoundPlan network None = HasNoSchedule network

-- a book that is finished has kept the first optimal schedule, or none, and then no list of offsets is valid; so says the plan that an argument shows; a
-- search that was stopped, or gave up, claims neither
abbrev pub FindsOptimum : Network → Found → Type 0
FindsOptimum network (Finished book) = MatchOption (kept_of network book.history) (HasNoSchedule network) (IsFirst network)
FindsOptimum network (Argued plan argument) = IsFoundPlan network plan
FindsOptimum network (Stopped book known) = Unit {0}
FindsOptimum network (GaveUp known count) = Unit {0}

-- an optimal plan is the first optimal schedule, with its flowspan; no schedule: no list of offsets is valid; a search that was stopped claims neither
abbrev pub AnswersOptimum : Network → Answer → Type 0
AnswersOptimum network (answer.Optimal plan certificate count) = IsFirstPlan network plan
AnswersOptimum network (answer.NoSchedule certificate count) = HasNoSchedule network
AnswersOptimum network (answer.Stopped book) = Unit {0}
