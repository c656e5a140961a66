-- What a teller does is a step of the shared search.
--     IsAmong, IsStep, AreSteps
--     ObservingIsAStep               a load of the word
--     PostingIsAStep                 a fetch-min on it
--     SettlingIsAStep                one settlement more
--     TakesSettles, SettlingAllIsSteps    several settlements more, one step for each
use Rattle.std.specs.Prelude.{◌≡◌, ℕ, ◌<◌, min, List, [], ◌∷◌, ◌++◌, map, length, slice_index_or, slice_set, All}
use Rattle.tsn_model.specs.Network.{Network}
use Rattle.tsn_model.specs.Search.{Event, Settlement, tally_of}
use Rattle.tsn_model.specs.Core.{State, Step, observe, post, settle, MayTake, effect_of, IsAboveSeen}
use Rattle.tsn_timing.specs.Solution.{Solution, IsSolved}
use Rattle.tsn_incumbent.specs.Standings.{saw, put}
use Rattle.tsn_book.specs.Book.{IsLawful}
use Rattle.tsn_book.specs.Below.{settlements_by}
use Rattle.tsn_incumbent.specs.Names.{Names, progress_of}
use Rattle.tsn_incumbent.specs.Teller.{Known, settled, settled_all}
use Rattle.tsn_incumbent.specs.Gathered.{state_of}

-- the teller stands at its number among them
abbrev pub IsAmong : List Known → Known → Type 0
IsAmong tellers known = (known.standing.number < length tellers) × (slice_index_or tellers known.standing.number known ≡ known)

-- the step is allowed, and the state after it is its effect
abbrev pub IsStep : Network → ℕ → State → Step → State → Type 0
IsStep network limit before step after = MayTake network limit before step × (after ≡ effect_of before step)

-- each step is allowed, and the state after it is its effect, one after another
abbrev pub AreSteps : Network → ℕ → State → List Step → State → Type 0
AreSteps network limit before [] after = after ≡ before
AreSteps network limit before (step ∷ steps) after = (next : State) × IsStep network limit before step next × AreSteps network limit next steps after

-- what `observe_as` says of a teller that found the word makes the step `observe`
abbrev pub ObservingIsAStep : Type 0
ObservingIsAStep = (network : Network) (limit word : ℕ) (tellers : List Known) (history : List Settlement) (old new : Known) → IsAmong tellers old
    → new.standing ≡ saw word old.standing → new.tally ≡ old.tally
    → IsStep network limit (state_of word tellers history) (observe old.standing.number) (state_of word (slice_set tellers old.standing.number new) history)

-- where the teller's share is its tally in the history, what `post_as` asks for and says makes the step `post`
abbrev pub PostingIsAStep : Type 0
PostingIsAStep = (network : Network) (limit word : ℕ) (tellers : List Known) (history : List Settlement) (old new : Known) → IsAmong tellers old
    → old.tally ≡ tally_of network old.standing.number history
    → (schedule : Solution) → IsSolved network schedule → schedule.flowspan ≡ old.tally.solved
    → new.standing ≡ put schedule.flowspan old.standing → new.tally ≡ old.tally
    → IsStep network limit (state_of word tellers history) (post old.standing.number schedule.flowspan)
    (state_of (min word schedule.flowspan) (slice_set tellers old.standing.number new) history)

-- where the book is lawful with one more settlement, what `settle_as` asks for and says makes the step `settle`
abbrev pub SettlingIsAStep : Type 0
SettlingIsAStep = (names : Names) (word : ℕ) (tellers : List Known) (history : List Settlement) (old new : Known) → IsAmong tellers old
    → (event : Event) → let after : List Settlement = history ++ record { teller = old.standing.number; event = event } ∷ [] in
    IsLawful (progress_of names after) → IsAboveSeen names.race.network old.standing.seen event.outcome
    → new ≡ settled event.outcome old
    → IsStep names.race.network names.limit (state_of word tellers history) (settle old.standing.number event) (state_of word (slice_set tellers old.standing.number new) after)

-- whatever the word and the other tellers are, one step `settle` for each event leads from the one history to the other, and from what the teller knew to what it knows
abbrev pub TakesSettles : Names → Known → Known → List Settlement → List Event → List Settlement → Type 0
TakesSettles names old new before events after = (word : ℕ) (tellers : List Known) → IsAmong tellers old
    → AreSteps names.race.network names.limit (state_of word tellers before) (map (settle old.standing.number) events) (state_of word (slice_set tellers old.standing.number new) after)

-- where the book is lawful with all these settlements, what `settle_all_as` and `settle_below_as` ask for and say of the events that they settle makes as many steps `settle`
abbrev pub SettlingAllIsSteps : Type 0
SettlingAllIsSteps = (names : Names) (history : List Settlement) (old new : Known) (events : List Event) → let after : List Settlement = history ++ settlements_by old.standing.number events in
    IsLawful (progress_of names after) → All (λ event. IsAboveSeen names.race.network old.standing.seen event.outcome) events
    → new ≡ settled_all (map (λ event. event.outcome) events) old
    → TakesSettles names old new history events after
