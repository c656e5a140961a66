-- Arguments: steps that each show a clause, some facts of which one holds, by moves that narrow a view of the schedules in question.
--     Goal, IsInQuestion                           what is to be shown, and the schedules that stand against it
--     Fact, IsFact, Says, IsSo, SomeIsSo, opposite     what may be said of offsets
--     View, Fits, IsImpossible, IsBounded          what is known of the offsets
--     learned, refuting, contradicts               a view with one more fact
--     first_head, last_end, work_on, AreOn, AreSome     frames on a link
--     reaches, filled, wasted, common_divisor, arranged, staged     what works fill of a room
--     unit_on, idle_on, works_left, works_right, left_over, right_over     what frames fill and leave of a room on a link
--     Edge, IsFixed, IsEdge, left_edge, right_edge, IsShut, AreInTurn, lost     rooms on a link
--     Move, AsksNoMore, IsAllowed, shown                       a move: when it may be made, and the facts that it shows
--     narrowed, AreAllowed                         moves one after another
--     first_ground, settled                        the view that every schedule in question fits
--     Step, Known, IsRight, known_after            a step: what makes it right, and what is known after it
--     IsSettled, Argues                            what makes an argument right
use Rattle.std.specs.Prelude.{◌≡◌, ◌≢◌, ℕ, zero, suc, ◌+◌, ◌-◌, ◌*◌, ◌%◌, ◌≤◌, ◌<◌, ◌⊎◌, List, [], ◌∷◌, ◌++◌, map, length, slice_index_or, slice_set, ℤ, pos, negsuc, ◌+ℤ◌, ◌-ℤ◌, ◌≤ℤ◌, ◌<ℤ◌, int_lt, int_le, min, leb, cond, Bool, true, false, not, if◌then◌else◌, filter, fold, sum_by, All, AllPairs, Contains}
use Rattle.std.specs.List.{range_with_len, list_any}
use Rattle.std.specs.Int.{int_min, int_max}
use Rattle.tsn_model.specs.declared.Frame.{Frame}
use Rattle.tsn_model.specs.declared.Side.{Side}
use Rattle.tsn_model.specs.declared.Side.TheVariants.{Left, Right}
use Rattle.tsn_model.specs.declared.Decision.{Decision}
use Rattle.tsn_model.specs.declared.Arc.{Arc}
use Rattle.tsn_model.specs.Network.{Network, stream_count, release_of}
use Rattle.tsn_model.specs.Timing.{separation, arrival}
use Rattle.tsn_model.specs.Schedule.{IsValid, IsConflict, IsNotAfter, offset_of, flowspan, latest_offset}
use Rattle.tsn_model.specs.Arcs.{arc_of, Holds}
use Rattle.tsn_model.specs.Certificate.{least, IsFrameOn, begin_on, end_on}
use Rattle.tsn_model.specs.Search.{decision_eq}

-- ---- goals

-- what is to be shown: that these offsets are the first of the optimal schedules, that they are an optimal one, or that there is no schedule
pub data Goal : Type 0 where
  goal_first : List ℕ → Goal
  goal_least : List ℕ → Goal
  goal_none : Goal

-- the offsets stand against the goal: their flowspan is lower than the plan's, or, where the plan is to be the first, as low, and they don't come after it
abbrev pub StandsAgainst : Network → Goal → List ℕ → Type 0
StandsAgainst network (goal_first plan) offsets =
    (flowspan network offsets < flowspan network plan) ⊎ ((flowspan network offsets ≡ flowspan network plan) × IsNotAfter offsets plan)
StandsAgainst network (goal_least plan) offsets = flowspan network offsets < flowspan network plan
StandsAgainst network goal_none offsets = Unit {0}

-- a valid schedule that stands against the goal
pub record IsInQuestion (network : Network) (goal : Goal) (offsets : List ℕ) : Type 0 where
  pub valid : IsValid network offsets
  pub against : StandsAgainst network goal offsets

-- ---- facts

-- a stream's offset is at least or at most a number, a decision, or the flowspan is at least or at most a number
pub data Fact : Type 0 where
  from : ℕ → ℤ → Fact
  until : ℕ → ℤ → Fact
  order : Decision → Fact
  done_from : ℤ → Fact
  done_until : ℤ → Fact

-- the streams that the fact speaks of are there, and its decision is on a conflict
abbrev pub IsFact : Network → Fact → Type 0
IsFact network (from i v) = i < stream_count network
IsFact network (until i v) = i < stream_count network
IsFact network (order decision) = IsConflict network decision.triple
IsFact network (done_from v) = Unit {0}
IsFact network (done_until v) = Unit {0}

-- what the fact says of the offsets
abbrev pub Says : Network → List ℕ → Fact → Type 0
Says network offsets (from i v) = v ≤ℤ pos (offset_of offsets i)
Says network offsets (until i v) = pos (offset_of offsets i) ≤ℤ v
Says network offsets (order decision) = Holds offsets (arc_of network decision)
Says network offsets (done_from v) = v ≤ℤ pos (flowspan network offsets)
Says network offsets (done_until v) = pos (flowspan network offsets) ≤ℤ v

-- the fact holds of the offsets
abbrev pub IsSo : Network → List ℕ → Fact → Type 0
IsSo network offsets fact = IsFact network fact × Says network offsets fact

-- what a clause says of the offsets: that some fact of it holds
pub record SomeIsSo (network : Network) (offsets : List ℕ) (clause : List Fact) : Type 0 where
  pub fact : Fact
  pub has : Contains clause fact
  pub so : IsSo network offsets fact

-- the decision for the other stream
unfoldable pub other_side : Side → Side
other_side Left = Right
other_side Right = Left

unfoldable pub turned : Decision → Decision
turned decision = record { triple = decision.triple; side = other_side decision.side }

-- what holds of a valid schedule of which the fact doesn't hold
unfoldable pub opposite : Fact → Fact
opposite (from i v) = until i (v -ℤ pos 1)
opposite (until i v) = from i (v +ℤ pos 1)
opposite (order decision) = order (turned decision)
opposite (done_from v) = done_until (v -ℤ pos 1)
opposite (done_until v) = done_from (v +ℤ pos 1)

-- ---- views

-- the least and the greatest offset of each stream, decisions, and the least and the greatest flowspan
pub record View : Type 0 where
  pub low : List ℤ
  pub high : List ℤ
  pub orders : List Decision
  pub done_low : ℤ
  pub done_high : ℤ

abbrev pub low_at : View → ℕ → ℤ
low_at view i = slice_index_or view.low i (pos 0)

abbrev pub high_at : View → ℕ → ℤ
high_at view i = slice_index_or view.high i (pos 0)

-- all that the view has holds of the offsets
pub record Fits (network : Network) (offsets : List ℕ) (view : View) : Type 0 where
  pub low : (i : ℕ) → i < stream_count network → low_at view i ≤ℤ pos (offset_of offsets i)
  pub high : (i : ℕ) → i < stream_count network → pos (offset_of offsets i) ≤ℤ high_at view i
  pub orders : All (λ decision. IsSo network offsets (order decision)) view.orders
  pub done_low : view.done_low ≤ℤ pos (flowspan network offsets)
  pub done_high : pos (flowspan network offsets) ≤ℤ view.done_high

-- no offsets fit the view, by its numbers alone
abbrev pub IsImpossible : Network → View → Type 0
IsImpossible network view = ((i : ℕ) × (i < stream_count network) × (high_at view i <ℤ low_at view i)) ⊎ (view.done_high <ℤ view.done_low)

-- no least number is below 0, and no greatest one above the cycle; so all numbers of a view that isn't impossible are between these
pub record IsBounded (network : Network) (view : View) : Type 0 where
  pub low : (i : ℕ) → i < stream_count network → pos 0 ≤ℤ low_at view i
  pub high : (i : ℕ) → i < stream_count network → high_at view i ≤ℤ pos network.cycle
  pub done_low : pos 0 ≤ℤ view.done_low
  pub done_high : view.done_high ≤ℤ pos network.cycle

-- the view with a fact more
unfoldable pub learned : View → Fact → View
learned view (from i v) = record view { low = slice_set view.low i (int_max v (low_at view i)) }
learned view (until i v) = record view { high = slice_set view.high i (int_min v (high_at view i)) }
learned view (order decision) = record view { orders = view.orders ++ decision ∷ [] }
learned view (done_from v) = record view { done_low = int_max v view.done_low }
learned view (done_until v) = record view { done_high = int_min v view.done_high }

unfoldable pub learned_all : View → List Fact → View
learned_all view [] = view
learned_all view (fact ∷ facts) = learned_all (learned view fact) facts

-- the fact by which a move shows that nothing fits the view: with it the view is impossible
unfoldable pub refuting : View → Fact
refuting view = done_from (view.done_high +ℤ pos 1)

-- whether the fact holds of no valid schedule that fits the view, as the view itself shows
unfoldable pub contradicts : View → Fact → Bool
contradicts view (from i v) = int_lt (high_at view i) v
contradicts view (until i v) = int_lt v (low_at view i)
contradicts view (order decision) = list_any (decision_eq (turned decision)) view.orders
contradicts view (done_from v) = int_lt view.done_high v
contradicts view (done_until v) = int_lt v view.done_low

-- the facts of a clause that the view doesn't contradict
unfoldable pub left_open : View → List Fact → List Fact
left_open view clause = filter (λ fact. not (contradicts view fact)) clause

-- the fact that is left of a clause; where none is, what refutes the view
unfoldable pub unit_of : View → List Fact → Fact
unit_of view [] = refuting view
unit_of view (fact ∷ facts) = fact

-- ---- frames on a link

-- the earliest start of a frame on the link, and the latest instant until which it keeps it
unfoldable pub head_at : Network → View → ℕ → Frame → ℤ
head_at network view link frame = low_at view frame.stream +ℤ pos (begin_on network link frame)

unfoldable pub end_at : Network → View → ℕ → Frame → ℤ
end_at network view link frame = high_at view frame.stream +ℤ pos (end_on network link frame)

-- the greatest of some signed numbers, 0 where there is none
unfoldable pub most : List ℤ → ℤ
most [] = pos 0
most (x ∷ xs) = fold int_max x xs

-- before its head no frame of these starts on the link, and by its end each is done with it
unfoldable pub first_head : Network → View → ℕ → List Frame → ℤ
first_head network view link frames = least (map (head_at network view link) frames)

unfoldable pub last_end : Network → View → ℕ → List Frame → ℤ
last_end network view link frames = most (map (end_at network view link) frames)

-- how long the frames occupy the link, one after another
unfoldable pub work_on : Network → ℕ → List Frame → ℕ
work_on network link frames = sum_by (λ frame. separation network frame.stream link) frames

-- different frames that use the link
pub record AreOn (network : Network) (link : ℕ) (frames : List Frame) : Type 0 where
  pub different : AllPairs ◌≢◌ frames
  pub on_link : All (IsFrameOn network link) frames

-- at least one of the frames, each once
pub record AreSome (frames some : List Frame) : Type 0 where
  pub one : 0 < length some
  pub different : AllPairs ◌≢◌ some
  pub among : All (Contains frames) some

-- ---- rooms on a link

-- the number, or 0 where it is lower
unfoldable pub natural : ℤ → ℕ
natural (pos n) = n
natural (negsuc n) = 0

-- whether some of the works, each once, add up to the amount; each stands with the least that those after it in the list have to add up to
unfoldable pub reaches : List (ℕ × ℕ) → ℕ → Bool
reaches [] amount = leb amount 0
reaches (work ∷ works) amount = cond (reaches works amount) true (cond (leb (work.0 + work.1) amount) (reaches works (amount - work.1)) false)

-- the most of the room that some of the works fill
unfoldable pub filled : List (ℕ × ℕ) → ℕ → ℕ
filled works zero = 0
filled works (suc room) = cond (reaches works (suc room)) (suc room) (filled works room)

-- the least of the room that they leave; of one that has more than 4,096 units nothing is said
unfoldable pub wasted : ℕ → List (ℕ × ℕ) → ℕ → ℕ
wasted unit works room = cond (leb room (4096 * unit)) (room - filled works room) 0

-- the greatest common divisor, by Euclid's steps, of which there are no more than so many
unfoldable pub divisor_within : ℕ → ℕ → ℕ → ℕ
divisor_within zero a b = a
divisor_within (suc steps) a zero = a
divisor_within (suc steps) a (suc b) = divisor_within steps (suc b) (a % suc b)

unfoldable pub common_divisor : ℕ → ℕ → ℕ
common_divisor a b = divisor_within (suc b) a b

-- the elements by falling keys
unfoldable pub inserted : {X : Type 0} → (X → ℕ) → X → List X → List X
inserted key x [] = x ∷ []
inserted key x (y ∷ ys) = cond (leb (key y) (key x)) (x ∷ y ∷ ys) (y ∷ inserted key x ys)

unfoldable pub arranged : {X : Type 0} → (X → ℕ) → List X → List X
arranged key [] = []
arranged key (x ∷ xs) = inserted key x (arranged key xs)

-- their works: by keys, which say how far from where the room begins each is at least, those that are nearer have to fill that but for the idle time
unfoldable pub staged : {X : Type 0} → (X → ℕ) → (X → ℕ) → ℕ → ℕ → List X → List (ℕ × ℕ)
staged key work idle least [] = []
staged key work idle least (x ∷ xs) = (min least (key x) - idle, work x) ∷ staged key work idle (min least (key x)) xs

-- the greatest common divisor of the frames' works
unfoldable pub unit_on : Network → ℕ → List Frame → ℕ
unit_on network link frames = fold common_divisor 0 (map (λ frame. separation network frame.stream link) frames)

-- how long the link is idle between the frames' first head and their last end
unfoldable pub idle_on : Network → View → ℕ → List Frame → ℕ
idle_on network view link frames = natural (last_end network view link frames) - (natural (first_head network view link frames) + work_on network link frames)

-- by the view's numbers the frame may be on the link between the two instants
unfoldable pub may_lie : Network → View → ℕ → ℕ → ℕ → Frame → Bool
may_lie network view link low high frame =
    cond (leb (low + separation network frame.stream link) (natural (end_at network view link frame)))
    (leb (natural (head_at network view link frame) + separation network frame.stream link) high) false

-- how far from the room's begin or end the frame is at least, where it is there
unfoldable pub from_left : Network → View → ℕ → ℕ → Frame → ℕ
from_left network view link low frame = natural (head_at network view link frame) - low

unfoldable pub from_right : Network → View → ℕ → ℕ → Frame → ℕ
from_right network view link high frame = high - natural (end_at network view link frame)

-- the works of the frames that may be there, in the order in which they fill the room from its begin, or from its end
unfoldable pub works_left : Network → View → ℕ → List Frame → ℕ → ℕ → List (ℕ × ℕ)
works_left network view link frames low high =
    staged (from_left network view link low) (λ frame. separation network frame.stream link) (idle_on network view link frames) (high - low)
    (arranged (from_left network view link low) (filter (may_lie network view link low high) frames))

unfoldable pub works_right : Network → View → ℕ → List Frame → ℕ → ℕ → List (ℕ × ℕ)
works_right network view link frames low high =
    staged (from_right network view link high) (λ frame. separation network frame.stream link) (idle_on network view link frames) (high - low)
    (arranged (from_right network view link high) (filter (may_lie network view link low high) frames))

-- what the frames leave at least of so much of the room from its begin, or from its end
unfoldable pub left_over : Network → View → ℕ → List Frame → ℕ → ℕ → ℕ → ℕ
left_over network view link frames low high room = wasted (unit_on network link frames) (works_left network view link frames low high) room

unfoldable pub right_over : Network → View → ℕ → List Frame → ℕ → ℕ → ℕ → ℕ
right_over network view link frames low high room = wasted (unit_on network link frames) (works_right network view link frames low high) room

-- the frame can't move any more
abbrev pub IsFixed : View → Frame → Type 0
IsFixed view frame = high_at view frame.stream ≤ℤ low_at view frame.stream

-- where a room on a link begins or ends: where that of all the frames does, or at a frame that can't move
pub data Edge : Type 0 where
  outermost : Edge
  beside : Frame → Edge

abbrev pub IsEdge : View → List Frame → Edge → Type 0
IsEdge view frames outermost = Unit {0}
IsEdge view frames (beside frame) = Contains frames frame × IsFixed view frame

unfoldable pub left_edge : Network → View → ℕ → List Frame → Edge → ℕ
left_edge network view link frames outermost = natural (first_head network view link frames)
left_edge network view link frames (beside frame) = natural (end_at network view link frame)

unfoldable pub right_edge : Network → View → ℕ → List Frame → Edge → ℕ
right_edge network view link frames outermost = natural (last_end network view link frames)
right_edge network view link frames (beside frame) = natural (head_at network view link frame)

-- in the room from low to high, where it would be, work of the frames that begins at x would leave more before and after it than all the idle time
pub record IsShut (network : Network) (view : View) (link : ℕ) (frames : List Frame) (low high work x : ℕ) : Type 0 where
  pub begin : low ≤ x
  pub end : x + work ≤ high
  pub full : idle_on network view link frames
      < left_over network view link frames low high (x - low) + right_over network view link frames low high (high - (x + work))

-- frames that can't move, one after another from low on
abbrev pub AreInTurn : Network → View → ℕ → ℕ → List Frame → Type 0
AreInTurn network view link low [] = Unit {0}
AreInTurn network view link low (frame ∷ frames) =
    IsFixed view frame × (low ≤ natural (head_at network view link frame)) × AreInTurn network view link (natural (end_at network view link frame)) frames

-- what the frames leave at least of the rooms between these
unfoldable pub lost : Network → View → ℕ → List Frame → ℕ → ℕ → List Frame → ℕ
lost network view link frames low high [] = left_over network view link frames low high (high - low)
lost network view link frames low high (frame ∷ fixed) =
    left_over network view link frames low (natural (head_at network view link frame)) (natural (head_at network view link frame) - low)
    + lost network view link frames (natural (end_at network view link frame)) high fixed

-- ---- moves

-- the forms of a move: by a decision's arc, by a decision's arc that can't be met, by a clause, by an arrival; a frame goes last or first of some on a link, some don't fit on it, or decisions go round; one decision follows from another; a frame finds its first or last place in a room, or frames leave more of their rooms than they may
pub data Move : Type 0 where
  go : Decision → Move
  turn : Decision → Move
  apply : ℕ → Move
  arrive : ℕ → Move
  put_last : ℕ → Frame → List Frame → List Frame → Move
  put_first : ℕ → Frame → List Frame → List Frame → Move
  pack : ℕ → List Frame → Move
  round : List Decision → Move
  follow : Decision → Decision → Move
  fill : ℕ → Frame → List Frame → Edge → Edge → ℕ → Move
  fill_back : ℕ → Frame → List Frame → Edge → Edge → ℕ → Move
  waste : ℕ → List Frame → List Frame → Move

-- the arcs of the decisions lead from one stream to another
abbrev pub LeadsBy : Network → ℕ → List Decision → ℕ → Type 0
LeadsBy network i [] j = i ≡ j
LeadsBy network i (decision ∷ decisions) j = ((arc_of network decision).from ≡ i) × LeadsBy network (arc_of network decision).to decisions j

-- their weights added
unfoldable pub weight_by : Network → List Decision → ℤ
weight_by network [] = pos 0
weight_by network (decision ∷ decisions) = (arc_of network decision).weight +ℤ weight_by network decisions

-- by the view's numbers no offsets meet the arc
abbrev pub IsOutOfReach : View → Arc → Type 0
IsOutOfReach view arc = high_at view arc.to <ℤ (low_at view arc.from +ℤ arc.weight)

-- the arc asks for no more than the other one, between the same streams
pub record AsksNoMore (arc other : Arc) : Type 0 where
  pub begins : arc.from ≡ other.from
  pub ends : arc.to ≡ other.to
  pub weight : arc.weight ≤ℤ other.weight

-- the clause of that number
abbrev pub clause_at : List (List Fact) → ℕ → List Fact
clause_at clauses k = slice_index_or clauses k []

-- the move may be made on the view, where these clauses were shown before
abbrev pub IsAllowed : Network → List (List Fact) → View → Move → Type 0
IsAllowed network clauses view (go decision) = Contains view.orders decision
IsAllowed network clauses view (turn decision) = IsConflict network decision.triple × IsOutOfReach view (arc_of network (turned decision))
IsAllowed network clauses view (apply k) = (k < length clauses) × (length (left_open view (clause_at clauses k)) ≤ 1)
IsAllowed network clauses view (arrive i) = i < stream_count network
IsAllowed network clauses view (put_last link frame frames some) =
    AreOn network link (frame ∷ frames) × AreSome frames some × (last_end network view link frames <ℤ (first_head network view link (frame ∷ frames) +ℤ pos (work_on network link (frame ∷ frames))))
IsAllowed network clauses view (put_first link frame frames some) =
    AreOn network link (frame ∷ frames) × AreSome frames some × (last_end network view link (frame ∷ frames) <ℤ (first_head network view link frames +ℤ pos (work_on network link (frame ∷ frames))))
IsAllowed network clauses view (pack link frames) = AreOn network link frames × (last_end network view link frames <ℤ (first_head network view link frames +ℤ pos (work_on network link frames)))
IsAllowed network clauses view (round decisions) = All (Contains view.orders) decisions × ((i : ℕ) × LeadsBy network i decisions i) × (pos 0 <ℤ weight_by network decisions)
IsAllowed network clauses view (follow decision weaker) =
    Contains view.orders decision × IsConflict network weaker.triple × AsksNoMore (arc_of network weaker) (arc_of network decision)
IsAllowed network clauses view (fill link frame frames before after start) =
    AreOn network link (frame ∷ frames) × IsEdge view frames before × IsEdge view frames after
    × ((x : ℕ) → natural (head_at network view link frame) ≤ x → x < start
    → IsShut network view link (frame ∷ frames) (left_edge network view link (frame ∷ frames) before) (right_edge network view link (frame ∷ frames) after)
    (separation network frame.stream link) x)
IsAllowed network clauses view (fill_back link frame frames before after finish) =
    AreOn network link (frame ∷ frames) × IsEdge view frames before × IsEdge view frames after
    × ((x : ℕ) → finish < x + separation network frame.stream link → x + separation network frame.stream link ≤ natural (end_at network view link frame)
    → IsShut network view link (frame ∷ frames) (left_edge network view link (frame ∷ frames) before) (right_edge network view link (frame ∷ frames) after)
    (separation network frame.stream link) x)
IsAllowed network clauses view (waste link frames fixed) =
    AreOn network link frames × All (Contains frames) fixed
    × AreInTurn network view link (natural (first_head network view link frames)) fixed
    × (idle_on network view link frames
    < lost network view link frames (natural (first_head network view link frames)) (natural (last_end network view link frames)) fixed)

-- what an arc shows of the streams where it begins and ends
unfoldable pub shown_by : View → Arc → List Fact
shown_by view arc = from arc.to (low_at view arc.from +ℤ arc.weight) ∷ until arc.from (high_at view arc.to -ℤ arc.weight) ∷ []

-- what a move shows of each schedule in question that fits the view
unfoldable pub shown : Network → List (List Fact) → View → Move → List Fact
shown network clauses view (go decision) = shown_by view (arc_of network decision)
shown network clauses view (turn decision) = order decision ∷ []
shown network clauses view (apply k) = unit_of view (left_open view (clause_at clauses k)) ∷ []
shown network clauses view (arrive i) = done_from (low_at view i +ℤ pos (arrival network i)) ∷ until i (view.done_high -ℤ pos (arrival network i)) ∷ []
shown network clauses view (put_last link frame frames some) =
    from frame.stream ((first_head network view link some +ℤ pos (work_on network link some)) -ℤ pos (begin_on network link frame)) ∷ []
shown network clauses view (put_first link frame frames some) =
    until frame.stream ((last_end network view link some -ℤ pos (work_on network link some)) -ℤ pos (end_on network link frame)) ∷ []
shown network clauses view (pack link frames) = refuting view ∷ []
shown network clauses view (round decisions) = refuting view ∷ []
shown network clauses view (follow decision weaker) = order weaker ∷ []
shown network clauses view (fill link frame frames before after start) = from frame.stream (pos start -ℤ pos (begin_on network link frame)) ∷ []
shown network clauses view (fill_back link frame frames before after finish) = until frame.stream (pos finish -ℤ pos (end_on network link frame)) ∷ []
shown network clauses view (waste link frames fixed) = refuting view ∷ []

-- the view after some moves
unfoldable pub narrowed : Network → List (List Fact) → View → List Move → View
narrowed network clauses view [] = view
narrowed network clauses view (move ∷ moves) = narrowed network clauses (learned_all view (shown network clauses view move)) moves

-- each may be made where it comes, on a view that isn't impossible yet, so that all numbers stay small
abbrev pub AreAllowed : Network → List (List Fact) → View → List Move → Type 0
AreAllowed network clauses view [] = Unit {0}
AreAllowed network clauses view (move ∷ moves) =
    (IsImpossible network view → ⊥) × IsAllowed network clauses view move × AreAllowed network clauses (learned_all view (shown network clauses view move)) moves

-- ---- the ground

-- the greatest flowspan in question
unfoldable pub greatest_flowspan : Network → Goal → ℤ
greatest_flowspan network (goal_first plan) = pos (flowspan network plan)
greatest_flowspan network (goal_least plan) = pos (flowspan network plan) -ℤ pos 1
greatest_flowspan network goal_none = pos network.cycle

-- what is known at first
unfoldable pub first_ground : Network → Goal → View
first_ground network goal = record {
  low = map (λ i. pos (release_of network i)) (range_with_len 0 (stream_count network));
  high = map (latest_offset network) (range_with_len 0 (stream_count network));
  orders = [];
  done_low = pos 0;
  done_high = greatest_flowspan network goal;
}

-- the greatest offsets, where the offsets don't come after the plan: none is above the plan's up to the first whose least isn't the plan's
unfoldable pub capped : List ℕ → List ℤ → List ℤ → List ℤ
capped [] lows highs = highs
capped (p ∷ plan) [] highs = highs
capped (p ∷ plan) (low ∷ lows) [] = []
capped (p ∷ plan) (low ∷ lows) (high ∷ highs) = int_min high (pos p) ∷ (if int_le (pos p) low then capped plan lows highs else highs)

-- where the plan is to be the first, and the flowspan can't be lower than the plan's, the offsets don't come after it
unfoldable pub settled : Network → Goal → View → View
settled network (goal_first plan) view = if int_le (pos (flowspan network plan)) view.done_low then record view { high = capped plan view.low view.high } else view
settled network (goal_least plan) view = view
settled network goal_none view = view

-- ---- steps

-- a clause, and the moves that show it
pub record Step : Type 0 where
  pub clause : List Fact
  pub moves : List Move

-- the ground, and the clauses that were shown
pub record Known : Type 0 where
  pub ground : View
  pub clauses : List (List Fact)

-- a step begins with the ground and the opposites of its clause's facts
unfoldable pub begun : Known → Step → View
begun known step = learned_all known.ground (map opposite step.clause)

-- and ends with this view
unfoldable pub ended : Network → Known → Step → View
ended network known step = narrowed network known.clauses (begun known step) step.moves

-- the step's moves may be made, and show that the opposites of its clause's facts don't hold together; a step with an empty clause may show its last view instead
pub record IsRight (network : Network) (known : Known) (step : Step) : Type 0 where
  pub open_ground : IsImpossible network known.ground → ⊥
  pub facts : All (IsFact network) step.clause
  pub moves : AreAllowed network known.clauses (begun known step) step.moves
  pub shows : (step.clause ≡ []) ⊎ IsImpossible network (ended network known step)

-- what is known with one more clause, or, where that is empty, with this view
unfoldable pub known_with : Network → Goal → Known → View → List Fact → Known
known_with network goal known view [] = record known { ground = settled network goal view }
known_with network goal known view (fact ∷ []) = record { ground = settled network goal (learned known.ground fact); clauses = known.clauses ++ (fact ∷ []) ∷ [] }
known_with network goal known view (fact ∷ other ∷ facts) = record known { clauses = known.clauses ++ (fact ∷ other ∷ facts) ∷ [] }

unfoldable pub known_after : Network → Goal → Known → Step → Known
known_after network goal known step = known_with network goal known (ended network known step) step.clause

-- ---- arguments

-- each schedule that fits the view is the plan
abbrev pub IsPlanAlone : Network → Goal → View → Type 0
IsPlanAlone network (goal_first plan) view = (pos (flowspan network plan) ≤ℤ view.done_low) × ((i : ℕ) → i < stream_count network → pos (offset_of plan i) ≤ℤ low_at view i)
IsPlanAlone network (goal_least plan) view = ⊥
IsPlanAlone network goal_none view = ⊥

-- nothing is in question any more, or only the plan itself
abbrev pub IsSettled : Network → Goal → View → Type 0
IsSettled network goal view = IsImpossible network view ⊎ IsPlanAlone network goal view

-- each of the steps is right after those before it, and they settle the goal
abbrev pub Concludes : Network → Goal → Known → List Step → Type 0
Concludes network goal known [] = IsSettled network goal known.ground
Concludes network goal known (step ∷ steps) = IsRight network known step × Concludes network goal (known_after network goal known step) steps

-- the argument is right
abbrev pub Argues : Network → Goal → List Step → Type 0
Argues network goal steps = Concludes network goal (record { ground = first_ground network goal; clauses = [] }) steps
