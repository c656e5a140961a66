-- Where work may begin in a room that others fill before and after it.
use Rattle.std.specs.Prelude.{ℕ, ◌+◌, ◌-◌, ◌^◌, ◌≤◌, ◌<◌, List}
use Rattle.tsn_model.specs.Argument.{wasted}
use Rattle.tsn_sums.specs.Sums.{IsUnit, TellsFilled, Covers}
use Rattle.tsn_sums.specs.declared.places.Told.{Told}
use Rattle.tsn_sums.specs.declared.places.Room.{Room}

-- the table tells of all rooms up to this one that have no more than 4,096 units
pub record IsTold (told : Told) (most : ℕ) : Type 0 where
  pub unit : IsUnit told.unit told.works.now
  pub short : told.unit < 2 ^ 32
  pub few : told.units ≤ 4096
  pub tells : TellsFilled told.works.now told.unit told.units told.table.now
  pub covers : Covers told.unit told.units most

pub record IsSmall (room : Room) : Type 0 where
  pub high : room.high < 2 ^ 40
  pub work : room.work < 2 ^ 32

-- work that begins at x is in the room, and before and after it more than the idle time is left of it
pub record IsFull (unit : ℕ) (left right : List (ℕ × ℕ)) (idle low high work x : ℕ) : Type 0 where
  pub begin : low ≤ x
  pub end : x + work ≤ high
  pub full : idle < wasted unit left (x - low) + wasted unit right (high - (x + work))

-- at each of these places
abbrev pub AreFull : ℕ → (left right : List (ℕ × ℕ)) → (idle low high work from until : ℕ) → Type 0
AreFull unit left right idle low high work from until = (x : ℕ) → from ≤ x → x < until → IsFull unit left right idle low high work x

-- the first of them where it isn't so
pub record IsFirstOpen (unit : ℕ) (left right : List (ℕ × ℕ)) (idle low high work from until x : ℕ) : Type 0 where
  pub after : from ≤ x
  pub within : x < until
  pub before : AreFull unit left right idle low high work from x
  pub opens : IsFull unit left right idle low high work x → ⊥
