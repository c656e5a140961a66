-- The places of a search: the root has the first one, and each split makes two more.
--     path_made, IsPlaceOf     the path of a place
use Rattle.std.specs.Prelude.{◌≡◌, ℕ, ◌<◌, List, [], length}
use Rattle.std.specs.List.{slice_index_or}
use Rattle.tsn_model.specs.declared.Decision.{Decision}
use Rattle.tsn_model.specs.Search.{Settlement, made_paths}

-- the path of a place: the root has place 0, and each split makes two more, its Left child's and then its Right child's
unfoldable pub path_made : List Settlement → ℕ → List Decision
path_made history place = slice_index_or (made_paths history) place []

-- the place was made, and this is its path
pub record IsPlaceOf (history : List Settlement) (path : List Decision) (place : ℕ) : Type 0 where
  pub within : place < length (made_paths history)
  pub is : path_made history place ≡ path
