-- Chains that are kept by the last arc of each.
use Rattle.std.specs.Prelude.{◌≡◌, ℕ, ◌<◌, ◌≤◌, List, length, Option, Some, None}
use Rattle.tsn_diff.specs.declared.forest.Step.{Step}
use Rattle.tsn_diff.specs.declared.forest.TheConstants.{MAX_STREAMS}
use Rattle.tsn_diff.specs.Steps.{last_of, Rooted, steps_back, indexes_of}

-- the chain that a stream's steps make
abbrev pub chain_in : List (Option Step) → ℕ → List ℕ
chain_in last stream = indexes_of (steps_back (length last) last None stream)

-- the steps lead each stream back to one that has none
pub record IsRooted (last : List (Option Step)) : Type 0 where
  pub few : length last ≤ MAX_STREAMS
  pub from_in : (stream : ℕ) (step : Step) → last_of last stream ≡ Some step → step.from < length last
  pub rooted : (stream : ℕ) → Rooted last stream
