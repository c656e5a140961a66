-- How a command ran over two files that it writes.
--     OverFiles     a run over files, as they were made and as they were left
--     MadeFiles     a run over files that words name
use Rattle.std.specs.Prelude.{◌≡◌, ℕ, List, [], ◌∷◌, Option}
use Rattle.tsn_outcome.specs.Run.{SinkRun, sink_over}

-- it holds of what became over a run of two files
pub record OverFiles {F G : Type 0} (taken : F → Option (List ℕ)) (failed : F → ℕ) (also_taken : G → Option (List ℕ)) (also_failed : G → ℕ)
    (first : F) (second : G) (holds : List SinkRun → Type 0) : Type 0 where
  pub first_left : F
  pub second_left : G
  pub ran : holds (sink_over taken failed first first_left ∷ sink_over also_taken also_failed second second_left ∷ [])

-- the files that words name were made, no write to them had failed, and it holds of a run over them
pub record MadeFiles {F G : Type 0} (taken : F → Option (List ℕ)) (failed : F → ℕ) (also_taken : G → Option (List ℕ)) (also_failed : G → ℕ)
    (makes_first : F → Type 0) (makes_second : G → Type 0) (holds : List SinkRun → Type 0) : Type 0 where
  pub first : F
  pub second : G
  pub made : makes_first first × makes_second second
  pub unfailing : (failed first ≡ 0) × (also_failed second ≡ 0)
  pub over : OverFiles taken failed also_taken also_failed first second holds
