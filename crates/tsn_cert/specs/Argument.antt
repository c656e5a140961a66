-- The argument file: `{"format":3,"goal":"..","steps":[..],"target":T}`, each step a clause and moves. A lag or a shift of 0 is left out, and has no other spelling.
use Rattle.serde_json.specs.Data.{Data, string, object, no_members, member}
use Rattle.serde_json.specs.Find.{get}
use Rattle.std.specs.List.{list_all}
use Rattle.std.specs.Prelude.{ℕ, List, [], ◌∷◌, map, Bool, if◌then◌else◌, ◌&&◌, ◌==◌, nat_le, codes, Option, Some, None, Result}
use Rattle.std.specs.Str.{bytes_eq}
use Rattle.tsn_cert.specs.Fact.{clause_form, fact_fits, clause_value, clause_of}
use Rattle.tsn_cert.specs.Fault.{answer}
use Rattle.tsn_cert.specs.Form.{Form, text, made, array, next, over, list}
use Rattle.tsn_cert.specs.Json.{◌>>=◌, when, value_of, file_text, whole_number, is_object_of, number_value, array_value}
use Rattle.tsn_cert.specs.Move.{moves_form, move_fits, moves_value, move_of}
use Rattle.tsn_cert.specs.Plan.{max_time}
use Rattle.tsn_cert.specs.declared.argument.Argument.{Argument}
use Rattle.tsn_cert.specs.declared.argument.Goal.TheVariants as aim
use Rattle.tsn_cert.specs.declared.argument.Goal.{Goal}
use Rattle.tsn_cert.specs.declared.fault.FileFault.{FileFault}
use Rattle.tsn_cert.specs.declared.step.Step.{Step}
use Rattle.tsn_model.specs.Argument as model

-- ---- the grammar

-- a clause and moves
abbrev pub step_form : Form Step
step_form = array (next clause_form (λ fs. next moves_form (λ ms. over (record { clause = fs; moves = ms }))))

abbrev pub step_in : Data → Option Step
step_in = step_form.said

abbrev pub steps_form : Form (List Step)
steps_form = list step_form

abbrev pub steps_in : Data → Option (List Step)
steps_in = steps_form.said

-- a goal, by its word
abbrev pub goal_named : List ℕ → Option Goal
goal_named word =
    if bytes_eq word (codes "first") then Some aim.First
    else (if bytes_eq word (codes "least") then Some aim.Least
    else (if bytes_eq word (codes "none") then Some aim.None
    else None))

abbrev pub goal_form : Form Goal
goal_form = made goal_named text

abbrev pub goal_of : Data → Option Goal
goal_of = goal_form.said

-- the number by which a file tells that it holds an argument
abbrev pub argument_format : ℕ
argument_format = 3

abbrev pub argument_of_values : Data → Data → Data → Data → Option Argument
argument_of_values format goal steps target = do
  f ← whole_number format
  when (f == argument_format) (do
    g ← goal_of goal
    ss ← steps_in steps
    t ← whole_number target
    Some (record { goal = g; target = t; steps = ss }))

-- an object with the four keys and no other
abbrev pub argument_of : Data → Option Argument
argument_of d = when (is_object_of 4 d) (do
  format ← get (codes "format") d
  goal ← get (codes "goal") d
  steps ← get (codes "steps") d
  target ← get (codes "target") d
  argument_of_values format goal steps target)

-- ---- the limits

abbrev pub step_fits : Step → Bool
step_fits step = list_all fact_fits step.clause && list_all move_fits step.moves

-- each number of the file is within its limit
abbrev pub argument_fits : Argument → Bool
argument_fits a = nat_le a.target max_time && list_all step_fits a.steps

-- what an argument file says, or how it is refused
abbrev pub argument_in : List ℕ → Result Argument FileFault
argument_in bytes = answer argument_of argument_fits (value_of bytes)

-- ---- the printed form

abbrev pub step_value : Step → Data
step_value step = array_value (clause_value step.clause ∷ moves_value step.moves ∷ [])

abbrev pub steps_value : List Step → Data
steps_value steps = array_value (map step_value steps)

abbrev pub goal_word : Goal → List ℕ
goal_word aim.First = codes "first"
goal_word aim.Least = codes "least"
goal_word aim.None = codes "none"

abbrev pub argument_value : Argument → Data
argument_value a = object (member (codes "format") (number_value argument_format)
    (member (codes "goal") (string (goal_word a.goal))
    (member (codes "steps") (steps_value a.steps)
    (member (codes "target") (number_value a.target) no_members))))

-- the text of an argument file
abbrev pub argument_text : Argument → List ℕ
argument_text a = file_text (argument_value a)

-- ---- what they mean

abbrev pub step_of : Step → model.Step
step_of step = record { clause = clause_of step.clause; moves = map move_of step.moves }

abbrev pub steps_of : List Step → List model.Step
steps_of steps = map step_of steps
