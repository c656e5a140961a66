-- The first wrong element of a list, where what is right or wrong at a place depends on the elements before it.
use Rattle.std.specs.Prelude.{◌≡◌, ℕ, List, take, slice_get, Some, Result, Ok, Err}

-- the elements before place k are right, and the one there is wrong in this way
pub record IsFirstWrong {X F : Type 0} (Right : List X → Type 0) (Wrong : List X → X → F → Type 0) (xs : List X) (fault : F) : Type 0 where
  pub k : ℕ
  pub there : X
  pub right_before : Right (take k xs)
  pub at : slice_get xs k ≡ Some there
  pub wrong : Wrong (take k xs) there fault

-- the first wrong element is told by its number, and by what is wrong with it
abbrev pub IsFirstTold : {X F T : Type 0} (told : ℕ → F → T) → (List X → Type 0) → (List X → X → F → Type 0) → List X → T → Type 0
IsFirstTold {X} {F} told Right Wrong xs fault = (wrong : F) × (first : IsFirstWrong Right Wrong xs wrong) × (fault ≡ told first.k wrong)

-- the elements are right, or the first wrong one is told
abbrev pub Judges : {X F : Type 0} → (List X → Type 0) → (List X → X → F → Type 0) → List X → Result Unit F → Type 0
Judges Right Wrong xs (Ok _) = Right xs
Judges Right Wrong xs (Err fault) = IsFirstWrong Right Wrong xs fault
