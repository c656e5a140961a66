-- The text of an argument in parts.
--     head_text          before the steps
--     step_text          a step, behind a comma where it is a later one than the first
--     steps_text         the steps, one after another
--     tail_text          behind the steps
use Rattle.std.specs.Prelude.{◌≡◌, ℕ, List, [], ◌++◌, ◌∷◌, Bool, true, false, codes, decimal}
use Rattle.serde_json.specs.Written.{comma_if, compact_text}
use Rattle.tsn_cert.specs.Argument.{goal_word, step_value, argument_text}
use Rattle.tsn_cert.specs.declared.step.Step.{Step}
use Rattle.tsn_cert.specs.declared.argument.Goal.{Goal}
use Rattle.tsn_cert.specs.declared.argument.Argument.{Argument}

abbrev pub head_text : Goal → List ℕ
head_text goal = codes "{\"format\":3,\"goal\":\"" ++ goal_word goal ++ codes "\",\"steps\":["

abbrev pub step_text : Bool → Step → List ℕ
step_text later step = comma_if later ++ compact_text (step_value step)

abbrev pub steps_text : Bool → List Step → List ℕ
steps_text later [] = []
steps_text later (step ∷ steps) = step_text later step ++ steps_text true steps

abbrev pub tail_text : ℕ → List ℕ
tail_text target = codes "],\"target\":" ++ decimal target ++ codes "}\n"

-- an argument's text is these, one after another
abbrev pub ArgumentTextHasParts : Type 0
ArgumentTextHasParts = (argument : Argument) → argument_text argument
    ≡ head_text argument.goal ++ (steps_text false argument.steps ++ tail_text argument.target)
