-- The shared search, as its callers see it.
--     Shared                       what a core knows
--     step_of, reply_of            its steps and replies, as the definitions have them
--     IsProved, IsWanting          what is known of a step before it is taken, and where there is no memory for it
--     IsReply, AreReplies          the reply to a step, and the replies to a list of steps
--     IsCutShort                   what want of memory leaves of a list of steps
--     IsTreeForKept, HasPostedAll  what is known of a quiet state
use Rattle.std.specs.Prelude.{◌≡◌, ℕ, ◌<◌, ◌≤◌, List, ◌∷◌, ◌++◌, map, length, AllPairs, IsPermutation, Option, Some, None}
use Rattle.std.specs.List.{slice_index_or}
use Rattle.tsn_model.specs.Network.{Network, IsWellFormed}
use Rattle.tsn_model.specs.Search.{Settlement, kept_of, tally_of}
use Rattle.tsn_model.specs.Core as shared
use Rattle.tsn_model.specs.Core.{Teller, State, observe, post, settle, MayTake, IsSound}
use Rattle.tsn_model.specs.Order.{Precedes}
use Rattle.tsn_model.specs.SearchLaws.{AreAcceptedTree}
use Rattle.tsn_model.specs.Replies as replies
use Rattle.tsn_model.specs.Replies.{found, recorded, refused_for, not_allowed, not_open, limit_met, not_conflict, already_decided, not_met, Answers, AnswersAll}
use Rattle.tsn_conflict.specs.Outcome.{outcome_of}
use Rattle.tsn_conflict.specs.Right.{HasProof}
use Rattle.tsn_book.specs.Event.{event_of}
use Rattle.tsn_book.specs.Book.{Progress}
use Rattle.tsn_book.specs.declared.fault.BookFault.TheVariants.{NotOpen, Limit, NotConflict, AlreadyDecided, Memory, NotMet}
use Rattle.tsn_core.specs.declared.shared.Step.{Step}
use Rattle.tsn_core.specs.declared.shared.Step.TheVariants.{Observe, Post, Settle}
use Rattle.tsn_core.specs.declared.shared.Reply.{Reply}
use Rattle.tsn_core.specs.declared.shared.Reply.TheVariants.{Found, Settled, Refused, NotAllowed}

-- the state of a search of that network, with at most that many settlements
pub record Shared : Type 0 where
  pub network : Network
  pub limit : ℕ
  pub state : State

-- ---- steps and replies

abbrev pub step_of : Step → shared.Step
step_of (Observe k) = observe k
step_of (Post k flowspan) = post k flowspan
step_of (Settle k event) = settle k (event_of event)

-- want of memory is told by no reply
abbrev pub reply_of : Reply → Option replies.Reply
reply_of (Found word) = Some (found word)
reply_of Settled = Some recorded
reply_of (Refused (NotOpen place)) = Some (refused_for (not_open place))
reply_of (Refused (Limit count)) = Some (refused_for (limit_met count))
reply_of (Refused NotConflict) = Some (refused_for not_conflict)
reply_of (Refused AlreadyDecided) = Some (refused_for already_decided)
reply_of (Refused Memory) = None
reply_of (Refused (NotMet number)) = Some (refused_for (not_met number))
reply_of NotAllowed = Some not_allowed

-- a leaf is right for its own bound
abbrev pub IsProved : Network → Step → Type 0
IsProved network (Observe k) = Unit {0}
IsProved network (Post k flowspan) = Unit {0}
IsProved network (Settle k event) = HasProof network event.node (outcome_of event.look)

-- an event that may be settled wants memory, and no other step does
abbrev pub IsWanting : Network → ℕ → State → shared.Step → Type 0
IsWanting network limit state (observe k) = ⊥
IsWanting network limit state (post k flowspan) = ⊥
IsWanting network limit state (settle k event) = MayTake network limit state (settle k event)

-- the reply is that of the step, which leads to the next state
abbrev pub IsReply : Network → ℕ → State → shared.Step → Reply → State → Type 0
IsReply network limit state step reply next = (told : replies.Reply) × (reply_of reply ≡ Some told) × Answers network limit state step told next

-- each reply is that of its step, one after another
abbrev pub AreReplies : Network → ℕ → State → List Step → List Reply → State → Type 0
AreReplies network limit state steps given last =
    (told : List replies.Reply) × (map reply_of given ≡ map Some told) × AnswersAll network limit state (map step_of steps) told last

-- the steps before one of them were taken, and no other
pub record IsCutShort (network : Network) (limit : ℕ) (state : State) (steps : List Step) (last : State) : Type 0 where
  pub taken : List Step
  pub wanting : Step
  pub left : List Step
  pub all : steps ≡ taken ++ wanting ∷ left
  pub given : List Reply
  pub answered : AreReplies network limit state taken given last

-- ---- what a core knows

-- the state is sound, and the book is of as many tellers
pub record IsShared (book : Progress) (word : ℕ) (tellers : List Teller) : Type 0 where
  pub formed : IsWellFormed book.network
  pub counted : book.tellers ≡ length tellers
  pub sound : IsSound book.network (record { word = word; tellers = tellers; history = book.history })

-- the settlements, in the order of their paths, are the nodes of a tree that is accepted in format 2 for what is kept
abbrev pub IsTreeForKept : Network → List Settlement → Type 0
IsTreeForKept network history =
    (ordered : List Settlement) × IsPermutation history ordered × AllPairs (λ (a b : Settlement). Precedes a.event.path b.event.path) ordered
    × AreAcceptedTree network (kept_of network history) ordered

-- each teller's posted is at most the least flowspan that it solved
abbrev pub HasPostedAll : Network → List Settlement → List Teller → Type 0
HasPostedAll network history tellers =
    (k : ℕ) → k < length tellers → (slice_index_or tellers k (record { seen = 0; posted = 0 })).posted ≤ (tally_of network k history).solved
