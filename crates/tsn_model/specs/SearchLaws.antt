-- The laws of the search, each the contract of a function in `tsn_laws/src/search.rt`.
use Rattle.std.specs.Prelude.{◌≡◌, ◌≢◌, ℕ, ◌+◌, ◌-◌, ◌^◌, ◌≤◌, ◌<◌, ◌⊎◌, ◌↔◌, List, [], ◌∷◌, ◌++◌, map, length, true, MatchOption, sum_by, Option, Some, All, AllPairs, Contains, IsPermutation}
use Rattle.tsn_model.specs.declared.Triple.{Triple}
use Rattle.std.specs.List.{range_with_len}
use Rattle.tsn_model.specs.declared.Side.{Side}
use Rattle.tsn_model.specs.declared.Decision.{Decision}
use Rattle.tsn_model.specs.Network.{Network, IsWellFormed}
use Rattle.tsn_model.specs.Schedule.{IsValid, flowspan, target_of, IsNotAfter, IsFirst, earlier, HasNoSchedule, IsConflict}
use Rattle.tsn_model.specs.Arcs.{conflicts_of}
use Rattle.tsn_model.specs.Certificate.{Leaf, beyond, Tree, AcceptsFirst, Spells, decided}
use Rattle.tsn_model.specs.Search.{Covers, solved, pruned, Settlement, children_of, made_paths, is_settled, open_paths, leaf_paths, solved_bound, solved_bounds, pruned_bounds, tally_of, best_bound, solution_of, kept_of, IsAllowed, IsLegal, PathBefore, Outcome, IsRight}
use Rattle.tsn_model.specs.Core.{State, initial_state, teller_at, Step, IsAboveSeen, Takes, Runs, IsSound, IsQuiet}
use Rattle.tsn_model.specs.Order.{Precedes, node_of}
use Rattle.tsn_model.specs.Replies.{IsLeafRight, FitsHistory, Reply, Answers, AnswersAll}
use Rattle.tsn_model.specs.Gathering.{tally_with, IsGathered}

-- ---- legal histories

-- a history is legal exactly where it is empty, or a legal one with an allowed settlement at its end
abbrev pub LegalHistoriesGrow : Type 0
LegalHistoriesGrow = (network : Network)
    → IsLegal network [] × ((history : List Settlement) (settlement : Settlement)
    → IsLegal network (history ++ settlement ∷ []) ↔ (IsLegal network history × IsAllowed network history settlement.event))

-- the leaves and the open paths of a legal history cover every valid schedule
abbrev pub LegalHistoriesCover : Type 0
LegalHistoriesCover = (network : Network) → IsWellFormed network → (history : List Settlement) → IsLegal network history → Covers network (leaf_paths history ++ open_paths history)

-- the made paths are all different, and no path is settled twice
abbrev pub PathsAreMadeOnce : Type 0
PathsAreMadeOnce = (network : Network) (history : List Settlement) → IsLegal network history
    → AllPairs ◌≢◌ (made_paths history) × AllPairs (λ (a b : Settlement). a.event.path ≢ b.event.path) history

-- what is settled was made
abbrev pub SettledPathsWereMade : Type 0
SettledPathsWereMade = (network : Network) (history : List Settlement) → IsLegal network history → (path : List Decision) → is_settled history path ≡ true → Contains (made_paths history) path

-- a child of an open path was never made
abbrev pub ChildrenAreNew : Type 0
ChildrenAreNew = (history : List Settlement) (path : List Decision) → Contains (open_paths history) path → (triple : Triple) (side : Side) → Contains (made_paths history) (decided path triple side) → ⊥

-- with one more settlement its path is no longer open, its children are open at the end, and the others stay as they are
abbrev pub OpenPathsFollow : Type 0
OpenPathsFollow = (network : Network) (history : List Settlement) (settlement : Settlement) → IsLegal network history → IsAllowed network history settlement.event
    → (before : List (List Decision)) × (after : List (List Decision)) × (open_paths history ≡ before ++ settlement.event.path ∷ after)
    × (open_paths (history ++ settlement ∷ []) ≡ (before ++ after) ++ children_of settlement.event.path settlement.event.outcome)

-- each made path decides conflicts, none of them twice
abbrev pub PathsDecideConflicts : Type 0
PathsDecideConflicts = (network : Network) (history : List Settlement) → IsLegal network history → (path : List Decision) → Contains (made_paths history) path
    → AllPairs (λ (a b : Decision). a.triple ≢ b.triple) path × All (λ (decision : Decision). IsConflict network decision.triple) path

-- so it is no longer than there are conflicts
abbrev pub PathsAreShort : Type 0
PathsAreShort = (network : Network) → IsWellFormed network → (history : List Settlement) → IsLegal network history → (path : List Decision) → Contains (made_paths history) path
    → length path ≤ length (conflicts_of network)

-- with t conflicts a legal history has at most 2^(t+1) - 1 settlements, and fewer where a path is open
abbrev pub HistoriesAreShort : Type 0
HistoriesAreShort = (network : Network) → IsWellFormed network → (history : List Settlement) → IsLegal network history
    → (length history ≤ 2 ^ (length (conflicts_of network) + 1) - 1)
    × ((path : List Decision) → Contains (open_paths history) path → length history < 2 ^ (length (conflicts_of network) + 1) - 1)

-- ---- what is kept

-- what is kept is a valid schedule of the least solved flowspan, and nothing is kept where nothing was solved; its target is that flowspan
abbrev pub KeptIsBest : Type 0
KeptIsBest = (network : Network) (history : List Settlement) → IsLegal network history
    → MatchOption (kept_of network history) (solved_bounds history ≡ []) (λ offsets. IsValid network offsets × (flowspan network offsets ≡ best_bound network history))
    × (target_of network (kept_of network history) ≡ best_bound network history)

-- it is a solved leaf's, and no solved leaf of that flowspan comes before it
abbrev pub KeptIsFirst : Type 0
KeptIsFirst = (network : Network) (history : List Settlement) → IsLegal network history → (kept : List ℕ) → kept_of network history ≡ Some kept
    → ((settlement : Settlement) × Contains history settlement × Contains (solution_of settlement.event.outcome) (kept, best_bound network history))
    × ((settlement : Settlement) (other : List ℕ) → Contains history settlement → Contains (solution_of settlement.event.outcome) (other, best_bound network history) → IsNotAfter kept other)

-- where nothing is open what is kept is the first of the optimal schedules, and where nothing is kept there is no schedule
abbrev pub FinishedHistoriesDecide : Type 0
FinishedHistoriesDecide = (network : Network) → IsWellFormed network → (history : List Settlement) → IsLegal network history → open_paths history ≡ []
    → MatchOption (kept_of network history) (HasNoSchedule network) (IsFirst network)

-- a solved leaf of a lesser flowspan is kept, and so is one of the same flowspan that comes before what was kept; any other settlement keeps what was kept
abbrev pub KeptFollows : Type 0
KeptFollows = (network : Network) (history : List Settlement) (settlement : Settlement) → IsLegal network (history ++ settlement ∷ [])
    → ((offsets : List ℕ) (bound : ℕ) (leaf : Leaf) (chains : List (List ℕ)) → settlement.event.outcome ≡ solved offsets bound leaf chains → bound < best_bound network history
    → (best_bound network (history ++ settlement ∷ []) ≡ bound) × (kept_of network (history ++ settlement ∷ []) ≡ Some offsets))
    × ((offsets : List ℕ) (bound : ℕ) (leaf : Leaf) (chains : List (List ℕ)) → settlement.event.outcome ≡ solved offsets bound leaf chains → bound ≡ best_bound network history
    → (best_bound network (history ++ settlement ∷ []) ≡ best_bound network history)
    × ((kept : List ℕ) → kept_of network history ≡ Some kept → kept_of network (history ++ settlement ∷ []) ≡ Some (earlier kept offsets)))
    × (All (λ bound. best_bound network history < bound) (solved_bound settlement.event.outcome)
    → (best_bound network (history ++ settlement ∷ []) ≡ best_bound network history) × (kept_of network (history ++ settlement ∷ []) ≡ kept_of network history))

-- a teller's tally takes its own events, and no others
abbrev pub TalliesFollow : Type 0
TalliesFollow = (network : Network) (k : ℕ) (history : List Settlement) (settlement : Settlement)
    → (settlement.teller ≡ k → tally_of network k (history ++ settlement ∷ []) ≡ tally_with (tally_of network k history) settlement.event.outcome)
    × (settlement.teller ≢ k → tally_of network k (history ++ settlement ∷ []) ≡ tally_of network k history)

-- ---- the order of paths

-- of two open paths one turns left where the other turns right
abbrev pub OpenPathsPart : Type 0
OpenPathsPart = (network : Network) (history : List Settlement) → IsLegal network history → (first second : List Decision)
    → Contains (open_paths history) first → Contains (open_paths history) second → first ≢ second → PathBefore first second ⊎ PathBefore second first

-- ---- outcomes

-- an outcome that is right after some history is right after each longer one: so what was found to be no better than what was kept isn't refused for what is kept by now
abbrev pub RightStays : Type 0
RightStays = (network : Network) (before rest : List Settlement) → IsLegal network (before ++ rest) → (path : List Decision) (outcome : Outcome)
    → IsRight network before path outcome → IsRight network (before ++ rest) path outcome

-- ---- certificates

-- a target that is at most each solved bound, while each pruned bound is worse
abbrev pub IsBelowBounds : Network → ℕ → List Settlement → Type 0
IsBelowBounds network target history = All (λ bound. target ≤ bound) (solved_bounds history) × All (λ bound. beyond network target ≤ bound) (pruned_bounds history)

-- the settlements, one after another, are the nodes of a tree that is accepted in format 2 for the plan
abbrev pub AreAcceptedTree : Network → Option (List ℕ) → List Settlement → Type 0
AreAcceptedTree network plan ordered = (tree : Tree) × AcceptsFirst network plan [] tree × Spells (map (λ (settlement : Settlement). node_of network plan settlement.event.outcome) ordered) tree

-- the settlements, none after one that its path precedes, are the nodes of a tree that is accepted for what is kept, where nothing is open
abbrev pub FinishedHistoriesAreTrees : Type 0
FinishedHistoriesAreTrees = (network : Network) (history : List Settlement) → IsLegal network history → open_paths history ≡ []
    → (ordered : List Settlement) → IsPermutation history ordered → AllPairs (λ (a b : Settlement). Precedes b.event.path a.event.path → ⊥) ordered
    → AreAcceptedTree network (kept_of network history) ordered

-- and there is such an order
abbrev pub SettlementsCanBeOrdered : Type 0
SettlementsCanBeOrdered = (network : Network) (history : List Settlement) → IsLegal network history
    → (ordered : List Settlement) × IsPermutation history ordered × AllPairs (λ (a b : Settlement). Precedes a.event.path b.event.path) ordered

-- the least solved flowspan is such a target, for every legal history
abbrev pub BestIsTarget : Type 0
BestIsTarget = (network : Network) (history : List Settlement) → IsLegal network history → IsBelowBounds network (best_bound network history) history

-- ---- the shared search

-- the first state is sound, each step keeps it sound, and so does each run
abbrev pub RunsKeepSound : Type 0
RunsKeepSound = (network : Network) → IsWellFormed network
    → ((tellers : ℕ) → IsSound network (initial_state network tellers))
    × ((limit : ℕ) (state : State) (step : Step) (next : State) → IsSound network state → Takes network limit state step next → IsSound network next)
    × ((limit tellers : ℕ) (steps : List Step) (last : State) → Runs network limit (initial_state network tellers) steps last → IsSound network last)

-- a run keeps its tellers, and settles no more than its limit
abbrev pub RunsKeepLimit : Type 0
RunsKeepLimit = (network : Network) (limit : ℕ) (state : State) (steps : List Step) (last : State) → length state.history ≤ limit → Runs network limit state steps last
    → (length last.history ≤ limit) × (length last.tellers ≡ length state.tellers)

-- an answered step is one that was taken, or one that isn't allowed and changed nothing
abbrev pub AnswersAreSteps : Type 0
AnswersAreSteps = (network : Network) (limit : ℕ)
    → ((state : State) (step : Step) (reply : Reply) (next : State) → Answers network limit state step reply next → Takes network limit state step next)
    × ((state : State) (steps : List Step) (replies : List Reply) (last : State) → AnswersAll network limit state steps replies last → Runs network limit state steps last)

-- a step has one answer, and leaves one state
abbrev pub AnswersAreOne : Type 0
AnswersAreOne = (network : Network) (limit : ℕ) (state : State) (step : Step) (first second : Reply) (one other : State)
    → Answers network limit state step first one → Answers network limit state step second other → (first ≡ second) × (one ≡ other)

-- in a sound state a pruned leaf that is above what its teller has seen fits to the history
abbrev pub SeenIsEnough : Type 0
SeenIsEnough = (network : Network) (state : State) → IsSound network state → (k : ℕ) → k < length state.tellers → (path : List Decision) (bound : ℕ) (leaf : Leaf)
    → IsAboveSeen network (teller_at state k).seen (pruned bound leaf) → FitsHistory network state.history path (pruned bound leaf)

-- in a sound and quiet state the word is the flowspan of what is kept, or one more than the cycle, and the history's settlements, in the order of their paths, are the nodes of a tree that is accepted for what is kept
abbrev pub QuietStatesAreTrees : Type 0
QuietStatesAreTrees = (network : Network) (state : State) → IsSound network state → IsQuiet state
    → (state.word ≡ target_of network (kept_of network state.history)) × IsBelowBounds network state.word state.history
    × ((ordered : List Settlement) × IsPermutation state.history ordered × AllPairs (λ (a b : Settlement). Precedes a.event.path b.event.path) ordered
    × AreAcceptedTree network (kept_of network state.history) ordered)

-- a gathered state is sound, quiet where nothing is open, and its word is the least flowspan that was solved
abbrev pub GatheredStatesAreSound : Type 0
GatheredStatesAreSound = (network : Network) → IsWellFormed network → (state : State) → IsGathered network state
    → IsSound network state × (open_paths state.history ≡ [] → IsQuiet state) × (state.word ≡ best_bound network state.history)

-- the tellers' counts add up to the history's, and the least solved flowspan is at most what each teller solved
abbrev pub TalliesAddUp : Type 0
TalliesAddUp = (network : Network) (tellers : ℕ) (history : List Settlement) → All (λ (settlement : Settlement). settlement.teller < tellers) history
    → (sum_by (λ k. (tally_of network k history).events) (range_with_len 0 tellers) ≡ length history)
    × ((k : ℕ) → best_bound network history ≤ (tally_of network k history).solved)

-- an outcome is right exactly where its leaf is, and it fits to the history
abbrev pub RightByParts : Type 0
RightByParts = (network : Network) (history : List Settlement) (path : List Decision) (outcome : Outcome)
    → IsRight network history path outcome ↔ (IsLeafRight network path outcome × FitsHistory network history path outcome)
