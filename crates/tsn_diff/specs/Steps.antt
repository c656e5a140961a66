-- The steps back from a stream.
use Rattle.std.specs.Prelude.{◌≡◌, ℕ, zero, suc, ◌==◌, Bool, false, cond, List, [], ◌∷◌, slice_index_or, Option, Some, None, map, reverse}
use Rattle.std.specs.Option.{option_map_or}
use Rattle.tsn_diff.specs.declared.forest.Step.{Step}

-- the last step of a stream's chain
abbrev pub last_of : List (Option Step) → ℕ → Option Step
last_of last stream = slice_index_or last stream None

-- the steps from a stream back to another
pub data Path (last : List (Option Step)) : ℕ → List Step → ℕ → Type 0 where
  here : {stream : ℕ} → Path last stream [] stream
  back : {stream top : ℕ} {step : Step} {steps : List Step} → last_of last stream ≡ Some step → Path last step.from steps top → Path last stream (step ∷ steps) top

-- the steps from a stream back to one where no step is left
pub record Rooted (last : List (Option Step)) (stream : ℕ) : Type 0 where
  pub steps : List Step
  pub root : ℕ
  pub path : Path last stream steps root
  pub ends : last_of last root ≡ None

-- whether the way back ends at a stream
abbrev pub is_top : Option ℕ → ℕ → Bool
is_top None stream = false
is_top (Some top) stream = stream == top

-- the first n steps back from a stream, as far as `top`
abbrev pub steps_back : ℕ → List (Option Step) → Option ℕ → ℕ → List Step
steps_back zero last top stream = []
steps_back (suc n) last top stream =
    cond (is_top top stream) [] (option_map_or (λ step. step ∷ steps_back n last top step.from) (last_of last stream) [])

-- the indexes of steps back, as a chain
abbrev pub indexes_of : List Step → List ℕ
indexes_of steps = reverse (map (λ step. step.index) steps)
