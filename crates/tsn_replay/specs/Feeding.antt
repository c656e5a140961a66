-- The background frames that a replay has yet to start.
--     background_of, background_for     the background that is handed in, or asked for by a word
--     waiting_at, IsOrder, IsFeedOf     how a feed holds its frames
--     waiting_on                        the frame that waits on a link before any other
--     IsLine, IsFirstOn                 the frames of a list wait in line
--     IsFollowing, IsSent               the first of a line has started
use Rattle.std.specs.Prelude.{◌≡◌, ℕ, ◌≤◌, ◌<◌, ◌⊎◌, List, [], length, slice_get, slice_index, slice_index_or, All, Any, Option, Some, None, Bool, true, false}
use Rattle.tsn_model.specs.Bridge.{BackgroundStart, BridgeRun, frame_at, IsBefore}
use Rattle.tsn_model.specs.Bridge as model
use Rattle.tsn_model.specs.Bridge.Background.{nothing, greedy, frames}
use Rattle.tsn_replay.specs.declared.background.Background.{Background}
use Rattle.tsn_replay.specs.declared.background.Background.TheVariants as given
use Rattle.tsn_replay.specs.declared.feed.Waiting.{Waiting}
use Rattle.tsn_replay.specs.declared.feed.Lines.{Lines}
use Rattle.tsn_replay.specs.declared.feed.Feed.{Feed}
use Rattle.tsn_replay.specs.declared.feed.Feed.TheVariants as feed

-- the background that is handed in
abbrev pub background_of : Background → model.Background
background_of given.Nothing = nothing
background_of given.Greedy = greedy
background_of (given.Listed list) = frames list.items

-- the background of a replay that is asked to be greedy, on each link always the greatest frame, or isn't: nothing
abbrev pub background_for : Bool → model.Background
background_for true = greedy
background_for false = nothing

-- nothing has started
abbrev pub no_start : BridgeRun
no_start = record { scheduled = []; background = [] }

-- the frame of that number of the list of all
unfoldable pub waiting_at : List model.BackgroundFrame → ℕ → Waiting
waiting_at list number = record { link = (frame_at list number).link; wanted = (frame_at list number).wanted; octets = (frame_at list number).octets; number = number }

-- the frame of that number of the order
unfoldable pub waiting_in : List Waiting → ℕ → Waiting
waiting_in order k = slice_index_or order k (record { link = 0; wanted = 0; octets = 0; number = 0 })

-- the frames of the list, by number
pub record AreWaiting (list : List model.BackgroundFrame) (all : List Waiting) : Type 0 where
  pub count : length all ≡ length list
  pub each : (k : ℕ) → k < length list → waiting_in all k ≡ waiting_at list k

-- by wanted start, then by number
abbrev pub ComesFirst : Waiting → Waiting → Type 0
ComesFirst a b = (a.wanted < b.wanted) ⊎ ((a.wanted ≡ b.wanted) × (a.number < b.number))

-- the order has each frame of the list, and they come by wanted start, then by number
pub record IsOrder (list : List model.BackgroundFrame) (order : List Waiting) : Type 0 where
  pub each : (k : ℕ) → k < length order → ((waiting_in order k).number < length list) × (waiting_in order k ≡ waiting_at list (waiting_in order k).number)
  pub complete : (number : ℕ) → number < length list → (k : ℕ) × (k < length order) × ((waiting_in order k).number ≡ number)
  pub sorted : (j k : ℕ) → j < k → k < length order → ComesFirst (waiting_in order j) (waiting_in order k)

-- of the order from that index on, the first on the link, or the end
pub record IsNextIn (order : List Waiting) (from link index : ℕ) : Type 0 where
  pub forward : from ≤ index
  pub within : index ≤ length order
  pub none : (k : ℕ) → from ≤ k → k < index → (waiting_in order k).link ≡ link → ⊥
  pub here : index < length order → (waiting_in order index).link ≡ link

-- by link, some frame of the link, or the end
pub record IsLines (list : List model.BackgroundFrame) (links : ℕ) (lines : Lines) : Type 0 where
  pub order : IsOrder list lines.order.items
  pub count : length lines.next.items ≡ links
  pub within : (link : ℕ) → link < links → slice_index lines.next.items link ≤ length lines.order.items
  pub on_link : (link : ℕ) → link < links → slice_index lines.next.items link < length lines.order.items → (waiting_in lines.order.items (slice_index lines.next.items link)).link ≡ link

-- the feed holds that background, for so many links
abbrev pub IsFeedOf : model.Background → ℕ → Feed → Type 0
IsFeedOf nothing links feed.Nothing = Unit {0}
IsFeedOf greedy links feed.Greedy = Unit {0}
IsFeedOf (frames list) links (feed.Listed lines) = IsLines list links lines
IsFeedOf background links other = ⊥

-- the feed has an entry for the link
abbrev pub HasLink : ℕ → Feed → Type 0
HasLink link (feed.Listed lines) = link < length lines.next.items
HasLink link other = Unit {0}

-- the greatest frame, always waiting
abbrev pub greatest_on : ℕ → Waiting
greatest_on link = record { link = link; wanted = 0; octets = 1522; number = 0 }

-- the frame that waits on a link before any other
abbrev pub waiting_on : Feed → ℕ → Option Waiting
waiting_on feed.Nothing link = None
waiting_on feed.Greedy link = Some (greatest_on link)
waiting_on (feed.Listed lines) link = slice_get lines.order.items (slice_index lines.next.items link)

-- the frame of that number of the list has started
abbrev pub FrameStarted : BridgeRun → ℕ → Type 0
FrameStarted run number = Any (λ (begun : BackgroundStart). begun.number ≡ number) run.background

-- a frame of the list that waits on the link
pub record IsOfList (list : List model.BackgroundFrame) (link : ℕ) (waiting : Waiting) : Type 0 where
  pub listed : waiting.number < length list
  pub is : waiting ≡ waiting_at list waiting.number
  pub on : waiting.link ≡ link

-- the first frame of the link that hasn't started: all before it have, and none after it has
abbrev pub IsLine : List model.BackgroundFrame → BridgeRun → ℕ → Option Waiting → Type 0
IsLine list run link None = (number : ℕ) → number < length list → (frame_at list number).link ≡ link → FrameStarted run number
IsLine list run link (Some waiting) = IsOfList list link waiting × ((number : ℕ) → IsBefore list number waiting.number → FrameStarted run number)
    × All (λ (begun : BackgroundStart). begun.link ≡ link → IsBefore list begun.number waiting.number) run.background

-- the frame of its link that comes right after the one that waits
abbrev pub IsFollowing : List model.BackgroundFrame → Waiting → Option Waiting → Type 0
IsFollowing list waiting None = (number : ℕ) → number < length list → (frame_at list number).link ≡ waiting.link → IsBefore list number waiting.number ⊎ (number ≡ waiting.number)
IsFollowing list waiting (Some next) = IsOfList list waiting.link next × IsBefore list waiting.number next.number
    × ((number : ℕ) → IsBefore list number next.number → IsBefore list number waiting.number ⊎ (number ≡ waiting.number))

-- before any start this frame waits on the link
abbrev pub IsFirstOn : model.Background → ℕ → Option Waiting → Type 0
IsFirstOn nothing link first = first ≡ None
IsFirstOn greedy link first = first ≡ Some (greatest_on link)
IsFirstOn (frames list) link first = IsLine list no_start link first

-- once the frame that waits on a link has started, this one waits
abbrev pub IsSent : model.Background → Option Waiting → Option Waiting → Type 0
IsSent nothing old next = next ≡ old
IsSent greedy old next = next ≡ old
IsSent (frames list) old next = (waiting : Waiting) → old ≡ Some waiting → IsFollowing list waiting next
