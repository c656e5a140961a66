-- What a reader of the steps of an argument gave: the steps, or which part of which step is of another form.
use Rattle.std.specs.Prelude.{◌≡◌, ◌⊎◌, ℕ, List, [], ◌∷◌, length, Option, Some, None, Result, Ok, Err, Vec, ⊤}
use Rattle.std.specs.declared.alloc.Global.{Global}
use Rattle.json.specs.Token.{Token}
use Rattle.json.specs.Json.{Parse, after_end_array}
use Rattle.tsn_cert.specs.Argument.{step_form, steps_form}
use Rattle.tsn_cert.specs.Fact.{fact_form, clause_form}
use Rattle.tsn_cert.specs.Form.{next, over, after_begin_array, elements_taken}
use Rattle.tsn_cert.specs.Move.{move_form, moves_form}
use Rattle.tsn_cert.specs.declared.fact.Fact.{Fact}
use Rattle.tsn_cert.specs.declared.motion.Move.{Move}
use Rattle.tsn_cert.specs.declared.step.Step.{Step}
use Rattle.tsn_codec.specs.Lists.{Stops}
use Rattle.tsn_codec.specs.declared.tokens.Unread.{Unread}
use Rattle.tsn_codec.specs.declared.tokens.Unread.TheVariants as other
use Rattle.tsn_cert.specs.declared.refused.Key.TheVariants as key
use Rattle.tsn_cert.specs.declared.refused.Misfit.{Misfit}
use Rattle.tsn_cert.specs.declared.refused.Misfit.TheVariants as misfit
use Rattle.tsn_cert.specs.declared.refused.Part.{Part}
use Rattle.tsn_cert.specs.declared.refused.Part.TheVariants as part
use Rattle.tsn_cert.specs.declared.refused.Refused.{Refused}
use Rattle.tsn_cert.specs.declared.refused.Refused.TheVariants.{WrongShape, Memory}

-- what is told of the step of this number: a part of it, or that it is no array of two arrays
abbrev pub of_step : ℕ → Option Part → Misfit
of_step number None = misfit.NoStep number
of_step number (Some it) = misfit.NoPart number it

-- What was taken of a step by p, or why there is none. What stops it is said by `Stop`.
abbrev pub TakesStep : Parse Step → (Option Part → List Token → Type 0) → ℕ → Result Step Refused → List Token → List Token → Type 0
TakesStep p Stop number (Ok step) ts rest = p ts ≡ Some (step, rest)
TakesStep p Stop number (Err (WrongShape m)) ts rest = (it : Option Part) × (m ≡ of_step number it) × Stop it ts
TakesStep p Stop number (Err Memory) ts rest = ⊤
TakesStep p Stop number (Err _) ts rest = ⊥

-- ---- the moves, and the end

abbrev pub moves_end : List Fact → Parse Step
moves_end clause = (next moves_form (λ ms. over (record { clause = clause; moves = ms }))).rest

-- no array stands there, or something stands behind it
abbrev pub HasNoMoves : List Token → Type 0
HasNoMoves ts =
    (after_begin_array ts ≡ None)
    ⊎ ((moves : List Move) × (end : List Token) × (moves_form.taken ts ≡ Some (moves, end)) × (after_end_array end ≡ None))

abbrev pub StopsMoves : ℕ → List Token → Type 0
StopsMoves number ts =
    (inner : List Token) × (moves : List Move) × (after_begin_array ts ≡ Some inner) × Stops move_form.taken moves inner × (number ≡ length moves)

abbrev pub MovesStop : Option Part → List Token → Type 0
MovesStop None ts = HasNoMoves ts
MovesStop (Some (part.Fact number)) ts = ⊥
MovesStop (Some (part.Move number)) ts = StopsMoves number ts

-- ---- the parts of a step

abbrev pub parts_end : Parse Step
parts_end = (next clause_form (λ fs. next moves_form (λ ms. over (record { clause = fs; moves = ms })))).rest

abbrev pub StopsFacts : ℕ → List Token → Type 0
StopsFacts number ts =
    (inner : List Token) × (facts : List Fact) × (after_begin_array ts ≡ Some inner) × Stops fact_form.taken facts inner × (number ≡ length facts)

-- facts stand there, and then this
abbrev pub BehindFacts : (List Token → Type 0) → List Token → Type 0
BehindFacts P ts = (clause : List Fact) × (behind : List Token) × (clause_form.taken ts ≡ Some (clause, behind)) × P behind

abbrev pub PartsStop : Option Part → List Token → Type 0
PartsStop None ts = (after_begin_array ts ≡ None) ⊎ BehindFacts HasNoMoves ts
PartsStop (Some (part.Fact number)) ts = StopsFacts number ts
PartsStop (Some (part.Move number)) ts = BehindFacts (StopsMoves number) ts

-- ---- a step

-- an array begins, and then this stands there
abbrev pub Inside : (List Token → Type 0) → List Token → Type 0
Inside P ts = (inner : List Token) × (after_begin_array ts ≡ Some inner) × P inner

abbrev pub StepStops : Option Part → List Token → Type 0
StepStops None ts = (after_begin_array ts ≡ None) ⊎ Inside (PartsStop None) ts
StepStops (Some it) ts = Inside (PartsStop (Some it)) ts

-- ---- steps

-- the tokens of an array go on with these elements, and with `at` behind them
abbrev pub StandsBehind : {A : Type 0} → Parse A → List A → List Token → List Token → Type 0
StandsBehind p [] ts at = ts ≡ at
StandsBehind p (x ∷ xs) ts at = (after_end_array ts ≡ None) × ((rest : List Token) × (p ts ≡ Some (x, rest)) × StandsBehind p xs rest at)

-- behind some steps stands something else, which is told
abbrev pub StopsBehind : Misfit → List Token → Type 0
StopsBehind m ts =
    (steps : List Step) × (at : List Token) × (it : Option Part) × StandsBehind step_form.taken steps ts at × (after_end_array at ≡ None)
    × StepStops it at × (m ≡ of_step (length steps) it)

-- what was taken of steps up to the end of their array
abbrev pub TakesSteps : Result (Vec Step Global) Refused → List Token → List Token → Type 0
TakesSteps (Ok steps) ts rest = elements_taken step_form.taken ts ≡ Some (steps.items, rest)
TakesSteps (Err (WrongShape m)) ts rest = StopsBehind m ts
TakesSteps (Err Memory) ts rest = ⊤
TakesSteps (Err _) ts rest = ⊥

-- the tokens begin with no array of steps, and this is why
abbrev pub StopsSteps : Misfit → List Token → Type 0
StopsSteps m ts = ((m ≡ misfit.NoArray key.Steps) × (after_begin_array ts ≡ None)) ⊎ Inside (StopsBehind m) ts

-- what was taken of an array of steps
abbrev pub TakesArray : Result (List Step) Refused → List Token → List Token → Type 0
TakesArray (Ok steps) ts rest = steps_form.taken ts ≡ Some (steps, rest)
TakesArray (Err (WrongShape m)) ts rest = StopsSteps m ts
TakesArray (Err Memory) ts rest = ⊤
TakesArray (Err _) ts rest = ⊥

-- why there is none, as why there is no part
abbrev pub unread_of : Refused → Unread
unread_of Memory = other.Memory
unread_of _ = other.OtherForm
