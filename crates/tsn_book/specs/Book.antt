-- What a book knows, and why it refuses an event.
use Rattle.std.specs.Prelude.{Bool, false, ◌≢◌, MatchOption, ◌||◌, ◌&&◌, nat_eq, ◌≡◌, ℕ, ◌<◌, ◌≤◌, ◌+◌, ◌-◌, ◌^◌, min, fold, List, [], length, map, All, AllPairs, Contains, IsPermutation, Option, Some, None, nat_lt, if◌then◌else◌}
use Rattle.std.specs.List.{slice_index_or}
use Rattle.tsn_model.specs.declared.Tally.{Tally}
use Rattle.tsn_model.specs.declared.Decision.{Decision}
use Rattle.tsn_model.specs.Network.{Network, IsWellFormed}
use Rattle.tsn_model.specs.Schedule.{comes_before}
use Rattle.tsn_model.specs.Certificate.{Leaf, beyond, HasBound, Tree, AcceptsFirst, Node, Spells}
use Rattle.tsn_model.specs.Arcs.{conflicts_of}
use Rattle.tsn_model.specs.Search.{Outcome, split, solved, pruned, tied, refuted, Event, Settlement, open_paths, best_bound, kept_of, solved_bound, pruned_bound, tally_of, IsNoBetter, IsAllowed, IsLegal, tally_as}
use Rattle.tsn_timing.specs.Solution.{Solution, IsSolved}
use Rattle.tsn_model.specs.Order.{Precedes, node_of}
use Rattle.tsn_model.specs.Replies.{not_open, limit_met, not_conflict, already_decided, not_met, IsFirstRefusal}
use Rattle.tsn_book.specs.Arena.{IsEvent, IsTree, AreClosed, history_of}
use Rattle.tsn_book.specs.declared.statuses.Origin.{Origin}
use Rattle.tsn_book.specs.declared.statuses.Status.{Status}
use Rattle.tsn_book.specs.declared.log.Settled.{Settled}
use Rattle.tsn_book.specs.declared.fault.BookFault.{BookFault}
use Rattle.tsn_book.specs.declared.fault.BookFault.TheVariants.{NotOpen, Limit, NotConflict, AlreadyDecided, NotMet, Memory}

-- what was settled so far, of a search for that network by so many tellers, with at most that many settlements
pub record Progress : Type 0 where
  pub network : Network
  pub tellers : ℕ
  pub limit : ℕ
  pub history : List Settlement

-- what every book keeps to: a legal history, within its limit and by its tellers; with t conflicts it has at most 2^(t+1) - 1
-- settlements, and fewer where a path is open
pub record IsLawful (progress : Progress) : Type 0 where
  pub legal : IsLegal progress.network progress.history
  pub within_limit : length progress.history ≤ progress.limit
  pub by_tellers : All (λ settlement. settlement.teller < progress.tellers) progress.history
  pub short : length progress.history ≤ 2 ^ (length (conflicts_of progress.network) + 1) - 1
  pub shorter : (path : List Decision) → Contains (open_paths progress.history) path → length progress.history < 2 ^ (length (conflicts_of progress.network) + 1) - 1

-- the first reason for which the event isn't settled; for want of memory, an event is refused that could be settled
abbrev pub IsFault : Network → ℕ → List Settlement → Event → BookFault → Type 0
IsFault network limit history event (NotOpen number) = IsFirstRefusal network limit history event (not_open number)
IsFault network limit history event (Limit count) = IsFirstRefusal network limit history event (limit_met count)
IsFault network limit history event NotConflict = IsFirstRefusal network limit history event not_conflict
IsFault network limit history event AlreadyDecided = IsFirstRefusal network limit history event already_decided
IsFault network limit history event (NotMet number) = IsFirstRefusal network limit history event (not_met number)
IsFault network limit history event Memory = (length history < limit) × IsAllowed network history event

-- the nodes spell a tree that is accepted in format 2 for the plan
pub record SpellsAccepted (network : Network) (plan : Option (List ℕ)) (nodes : List Node) : Type 0 where
  pub tree : Tree
  pub spelled : Spells nodes tree
  pub accepted : AcceptsFirst network plan [] tree

-- the nodes are those of the settlements, in the order of their paths, for what is kept
pub record AreNodesOf (network : Network) (history : List Settlement) (nodes : List Node) : Type 0 where
  pub ordered : List Settlement
  pub same : IsPermutation history ordered
  pub in_order : AllPairs (λ (a b : Settlement). Precedes a.event.path b.event.path) ordered
  pub are : nodes ≡ map (λ (settlement : Settlement). node_of network (kept_of network history) settlement.event.outcome) ordered

-- the offsets of a plan
abbrev pub planned : Option Solution → Option (List ℕ)
planned None = None
planned (Some solution) = Some solution.offsets

-- it has the flowspan of its offsets
abbrev pub IsPlan : Network → Option Solution → Type 0
IsPlan network plan = MatchOption plan (Unit {0}) (IsSolved network)

-- it is what is kept
abbrev pub IsPlanOf : Network → List Settlement → Option Solution → Type 0
IsPlanOf network history plan = IsPlan network plan × (kept_of network history ≡ planned plan)

-- where the outcome's node is a tie its leaf has a bound, and nothing is tied or solved above the cycle where there is no plan
abbrev pub HasTie : Network → Option Solution → Outcome → Type 0
HasTie network plan (split triple) = Unit {0}
HasTie network plan (solved offsets bound leaf chains) = HasBound leaf × (plan ≡ None → bound ≤ network.cycle)
HasTie network plan (pruned bound leaf) = Unit {0}
HasTie network plan (tied bound leaf chains) = HasBound leaf × (plan ≢ None)
HasTie network plan (refuted leaf) = Unit {0}

-- a pruned bound is worse than the least solved flowspan, and a tie is no better than what is kept
abbrev pub IsMet : Network → List Settlement → List Decision → Outcome → Type 0
IsMet network history path (split triple) = Unit {0}
IsMet network history path (solved offsets bound leaf chains) = Unit {0}
IsMet network history path (pruned bound leaf) = beyond network (best_bound network history) ≤ bound
IsMet network history path (tied bound leaf chains) = IsNoBetter network history path bound chains
IsMet network history path (refuted leaf) = Unit {0}

-- ---- what a book keeps beside its places

abbrev pub child_count : Outcome → ℕ
child_count (split triple) = 2
child_count (solved offsets bound leaf chains) = 0
child_count (pruned bound leaf) = 0
child_count (tied bound leaf chains) = 0
child_count (refuted leaf) = 0

-- whether the offsets come before those that are kept
unfoldable pub before_kept : Option (List ℕ) → List ℕ → Bool
before_kept None offsets = false
before_kept (Some kept) offsets = comes_before offsets kept

-- whether the outcome is to be kept in place of what is: it solves a lesser flowspan, or the same one by offsets that come before
abbrev pub is_better : Option (List ℕ) → ℕ → Outcome → Bool
is_better first best (split triple) = false
is_better first best (solved offsets bound leaf chains) = nat_lt bound best || (nat_eq bound best && before_kept first offsets)
is_better first best (pruned bound leaf) = false
is_better first best (tied bound leaf chains) = false
is_better first best (refuted leaf) = false

-- the number of the event that is kept, after one more
abbrev pub kept_after : Bool → Option ℕ → ℕ → Option ℕ
kept_after better kept number = (if better then Some number else kept)

-- a teller's tally, after one more of its events
abbrev pub tally_after : Tally → Outcome → Tally
tally_after tally outcome = tally_as (tally.events + 1) (fold min tally.pruned (pruned_bound outcome)) (fold min tally.solved (solved_bound outcome))

-- the event of that number has the offsets that are kept
abbrev pub IsKept : Network → List Settlement → Option ℕ → Type 0
IsKept network history None = kept_of network history ≡ None
IsKept network history (Some number) =
    (path : List Decision) × (offsets : List ℕ) × (bound : ℕ) × (leaf : Leaf) × (chains : List (List ℕ)) × IsEvent history number path (solved offsets bound leaf chains) × (kept_of network history ≡ Some offsets)

-- the numbers beside the places are those of the history
pub record IsSummary (network : Network) (history : List Settlement) (open_count best : ℕ) (kept_number : Option ℕ) (tallies : List Tally) : Type 0 where
  pub counted : open_count ≡ length (open_paths history)
  pub lowest : best ≡ best_bound network history
  pub kept : IsKept network history kept_number
  pub tallied : (k : ℕ) → k < length tallies → slice_index_or tallies k (tally_as 0 0 0) ≡ tally_of network k history
  pub tellers : All (λ settlement. settlement.teller < length tallies) history

-- the fields of a book stand for what was settled of a search for that network
pub record IsBook (network : Network) (origins : List Origin) (statuses : List Status) (events : List Settled) (flags : List Bool) (limit open_count best : ℕ) (kept_number : Option ℕ) (tallies : List Tally) : Type 0 where
  pub tree : IsTree network origins statuses events
  pub closed : AreClosed statuses flags
  pub within_limit : length events ≤ limit
  pub summary : IsSummary network (history_of origins events) open_count best kept_number tallies
  pub formed : IsWellFormed network
