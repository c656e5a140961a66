-- The plan file: `{"flowspan":F,"offsets":[o0,o1,..]}`, or null at both keys where there is no schedule.
use Rattle.std.specs.Prelude.{ℕ, List, map, Bool, true, if◌then◌else◌, ◌&&◌, nat_le, codes, Option, Some, Result}
use Rattle.serde_json.specs.Data.{Data, null, object, no_members, member}
use Rattle.serde_json.specs.Find.{get}
use Rattle.tsn_cert.specs.Json.{◌>>=◌, when, value_of, file_text, whole_number, numbers, is_object_of, is_null, all_within, number_value, array_value}
use Rattle.tsn_cert.specs.Fault.{answer}
use Rattle.tsn_cert.specs.declared.fault.FileFault.{FileFault}
use Rattle.tsn_cert.specs.declared.plan.Plan.{Plan}
use Rattle.tsn_cert.specs.declared.plan.Plan.TheVariants as plan

-- ---- the grammar

-- both values are null, or neither is
abbrev pub plan_of_values : Data → Data → Option Plan
plan_of_values flowspan offsets =
    if is_null flowspan && is_null offsets then Some plan.None
    else do
      f ← whole_number flowspan
      os ← numbers offsets
      Some (plan.Schedule f os)

-- an object with the two keys and no other
abbrev pub plan_of : Data → Option Plan
plan_of d = when (is_object_of 2 d) (do
  flowspan ← get (codes "flowspan") d
  offsets ← get (codes "offsets") d
  plan_of_values flowspan offsets)

-- the greatest time in a file
abbrev pub max_time : ℕ
max_time = 2000000000

-- no number of the file is above the limit
abbrev pub plan_fits : Plan → Bool
plan_fits plan.None = true
plan_fits (plan.Schedule flowspan offsets) = nat_le flowspan max_time && all_within max_time offsets

-- what a plan file says, or how it is refused
abbrev pub plan_in : List ℕ → Result Plan FileFault
plan_in bytes = answer plan_of plan_fits (value_of bytes)

-- ---- the printed form

abbrev pub plan_value : Plan → Data
plan_value plan.None = object (member (codes "flowspan") null (member (codes "offsets") null no_members))
plan_value (plan.Schedule flowspan offsets) = object (member (codes "flowspan") (number_value flowspan) (member (codes "offsets") (array_value (map number_value offsets)) no_members))

-- the text of a plan file
abbrev pub plan_text : Plan → List ℕ
plan_text plan = file_text (plan_value plan)
