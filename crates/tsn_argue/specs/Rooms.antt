-- What frames come to in rooms on a link, as the checker works it out.
use Rattle.std.specs.Prelude.{◌≡◌, ℕ, suc, ◌-◌, ◌≤◌, ◌<◌, cond, Bool, true, false, List, [], ◌∷◌, length, All}
use Rattle.tsn_model.specs.declared.Frame.{Frame}
use Rattle.tsn_model.specs.Network.{Network}
use Rattle.tsn_model.specs.Timing.{separation}
use Rattle.tsn_model.specs.Certificate.{IsFrameOn}
use Rattle.tsn_model.specs.Argument.{View, natural, head_at, end_at, first_head, last_end, inserted, unit_on, idle_on, may_lie, from_left, from_right, works_left, works_right}
use Rattle.tsn_sums.specs.Sums.{key_of, IsUnit, TellsFilled, Covers}
use Rattle.tsn_sums.specs.declared.shelf.Shelf.{Shelf}
use Rattle.tsn_argue.specs.declared.room.Span.{Span}
use Rattle.tsn_argue.specs.declared.room.Hall.{Hall}
use Rattle.tsn_argue.specs.declared.room.Group.{Group}
use Rattle.tsn_argue.specs.State.{view_of, IsSound}

-- a frame's head, its end and its work
pub record IsSpan (network : Network) (view : View) (link : ℕ) (frame : Frame) (span : Span) : Type 0 where
  pub head : span.head ≡ natural (head_at network view link frame)
  pub end : span.end ≡ natural (end_at network view link frame)
  pub work : span.work ≡ separation network frame.stream link
  pub head_small : span.head ≤ 4000000000
  pub end_small : span.end ≤ 4000000000
  pub work_small : span.work ≤ 1233600
  pub work_some : 0 < span.work
  pub order : span.head ≤ span.end

-- what all of the frames come to
pub record IsHall (network : Network) (view : View) (link : ℕ) (frames : List Frame) (hall : Hall) : Type 0 where
  pub unit : hall.unit ≡ unit_on network link frames
  pub idle : hall.idle ≡ idle_on network view link frames
  pub first : hall.first ≡ natural (first_head network view link frames)
  pub last : hall.last ≡ natural (last_end network view link frames)
  pub first_small : hall.first ≤ 4000000000
  pub last_small : hall.last ≤ 4000000000
  pub unit_small : hall.unit ≤ 1233600

-- the network, and the frames of a group
abbrev pub network_of : Group → Network
network_of group = group.view.now.timing.now

abbrev pub frames_of : Group → List Frame
frames_of group = group.first ∷ group.others.now

-- the frames use the link, there are no more than a list has, the view isn't impossible, and it is told what the frames come to
pub record IsGroup (group : Group) : Type 0 where
  pub sound : IsSound group.view.now
  pub possible : group.view.now.crossed ≡ false
  pub on : All (IsFrameOn (network_of group) group.link) (frames_of group)
  pub few : length group.others.now ≤ 65536
  pub hall : IsHall (network_of group) (view_of group.view.now) group.link (frames_of group) group.hall

-- how far from the begin of a room, or from its end, a frame is at least
abbrev pub key_on : Network → View → ℕ → (low high : ℕ) → Bool → Frame → ℕ
key_on network view link low high is_left frame = cond is_left (from_left network view link low frame) (from_right network view link high frame)

-- its row: that, and its work
abbrev pub row_on : Network → View → ℕ → (low high : ℕ) → Bool → Frame → ℕ × ℕ
row_on network view link low high is_left frame = (key_on network view link low high is_left frame, separation network frame.stream link)

-- rows with that of a frame, where it may lie in the room
unfoldable pub rows_with : Network → View → ℕ → (low high : ℕ) → Bool → Frame → List (ℕ × ℕ) → List (ℕ × ℕ)
rows_with network view link low high is_left frame rows =
    cond (may_lie network view link low high frame) (inserted key_of (row_on network view link low high is_left frame) rows) rows

unfoldable pub rows_on : Network → View → ℕ → (low high : ℕ) → Bool → List Frame → List (ℕ × ℕ)
rows_on network view link low high is_left [] = []
rows_on network view link low high is_left (frame ∷ frames) = rows_with network view link low high is_left frame (rows_on network view link low high is_left frames)

-- the works of the frames in the order in which they fill the room from its begin, or from its end
abbrev pub works_of : Network → View → ℕ → List Frame → (low high : ℕ) → Bool → List (ℕ × ℕ)
works_of network view link frames low high true = works_left network view link frames low high
works_of network view link frames low high false = works_right network view link frames low high

-- what the frames fill of a room is told, with units that divide their works
pub record IsTelling (network : Network) (view : View) (link : ℕ) (frames : List Frame) (unit low high : ℕ) (is_left : Bool) (shelf : Shelf) (units : ℕ) : Type 0 where
  pub rows : shelf.rows ≡ works_of network view link frames low high is_left
  pub divides : IsUnit unit shelf.rows
  pub few : units ≤ 4096
  pub tells : TellsFilled shelf.rows unit units shelf.table
  pub covers : Covers unit units (high - low)

-- from which place on a frame may not begin, and until which: its earliest before a time, or those where it would end after a time until its latest
abbrev pub from_place : Network → View → ℕ → Frame → ℕ → Bool → ℕ
from_place network view link frame bound true = suc bound - separation network frame.stream link
from_place network view link frame bound false = natural (head_at network view link frame)

abbrev pub until_place : Network → View → ℕ → Frame → ℕ → Bool → ℕ
until_place network view link frame bound true = suc (natural (end_at network view link frame)) - separation network frame.stream link
until_place network view link frame bound false = bound
