-- Places, as they are kept.
use Rattle.std.specs.Prelude.{pos, ◌≡◌, ℕ, ◌+◌, ◌*◌, ◌<◌, List, [], ◌∷◌, length, All}
use Rattle.std.specs.List.{flat_map, slice_index_or}
use Rattle.tsn_model.specs.declared.Side.TheVariants.{Left, Right}
use Rattle.tsn_book.specs.declared.statuses.Origin.{Origin}
use Rattle.tsn_book.specs.declared.statuses.Origin.TheVariants.{Root, Child}
use Rattle.tsn_book.specs.declared.statuses.Status.{Status}
use Rattle.tsn_book.specs.declared.statuses.Status.TheVariants.{Open, Split, Leaf}
use Rattle.tsn_book.specs.declared.statuses.Mark.{Mark}
use Rattle.tsn_book.specs.declared.statuses.Mark.TheVariants.{Open as marked_open, Split as marked_split, Leaf as marked_leaf}
use Rattle.tsn_book.specs.declared.statuses.Branching.{Branching}

-- how each place was made, what is known of it, and for how many more splits there is room
pub record Placed : Type 0 where
  pub origins : List Origin
  pub statuses : List Status
  pub room : ℕ

-- the two children of a split
abbrev pub children_made : Branching → List Origin
children_made split = Child split.place (record { triple = split.triple; side = Left }) ∷ Child split.place (record { triple = split.triple; side = Right }) ∷ []

abbrev pub origins_of : List Branching → List Origin
origins_of splits = Root ∷ flat_map children_made splits

abbrev pub split_at : List Branching → ℕ → Branching
split_at splits number = slice_index_or splits number (record { place = 0; triple = record { left = 0; right = 0; link = 0; lag = pos 0 }; event = 0 })

abbrev pub status_of : List Branching → Mark → Status
status_of splits marked_open = Open
status_of splits (marked_split number) = Split (split_at splits number).triple (2 * number + 1) (split_at splits number).event
status_of splits (marked_leaf event) = Leaf event

-- a split is one of those that are stored
abbrev pub IsStored : ℕ → Mark → Type 0
IsStored count marked_open = Unit {0}
IsStored count (marked_split number) = number < count
IsStored count (marked_leaf event) = Unit {0}

pub record ArePlaces (marks : List Mark) (splits : List Branching) : Type 0 where
  pub counted : length marks ≡ 2 * length splits + 1
  pub stored : All (IsStored (length splits)) marks
