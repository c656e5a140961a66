-- What lies behind the lock.
use Rattle.std.specs.Prelude.{◌≡◌, ℕ, zero, suc, ◌<◌, ◌≤◌, true, List, [], ◌∷◌, length, slice_index_or, slice_get, Option, Some, None, MatchOption, IsSomeAnd}
use Rattle.tsn_model.specs.Network.{Network}
use Rattle.tsn_model.specs.Search.{Event, Settlement, open_paths, tally_of, best_bound, kept_of, IsFirstOpen}
use Rattle.tsn_timing.specs.Solution.{Solution, IsSolved}
use Rattle.tsn_incumbent.specs.Flowspans.{no_flowspan}
use Rattle.tsn_incumbent.specs.Halves.{Half, half}
use Rattle.tsn_book.specs.Book.{IsLawful, IsFault}
use Rattle.tsn_book.specs.declared.fault.BookFault.{BookFault}
use Rattle.tsn_incumbent.specs.Names.{Names, progress_of}
use Rattle.tsn_incumbent.specs.Teller.{Known, no_event}
use Rattle.tsn_incumbent.specs.declared.desk.Counts.{Counts}

-- each number's half behind the lock holds the tally of the history
pub record Halved (names : Names) (halves : List Half) (history : List Settlement) : Type 0 where
  pub count : length halves ≡ names.race.tellers
  pub each : (number : ℕ) (d : Half) → number < length halves → slice_index_or halves number d ≡ half names.halves number true (tally_of names.race.network number history)

-- the halves that lie there at first
abbrev pub others_from : Names → ℕ → ℕ → List Half
others_from names first zero = []
others_from names first (suc count) = half names.halves first true (no_event names.race.network) ∷ others_from names (suc first) count

-- the counts are those of the history
pub record AreCounts (history : List Settlement) (counts : Counts) : Type 0 where
  pub count : counts.count ≡ length history
  pub open_nodes : counts.open_nodes ≡ length (open_paths history)
  pub first : MatchOption counts.first (open_paths history ≡ []) (IsFirstOpen history)

-- they are those of a lawful history of this search in which the teller's tally is its share, so that at least as many events are settled as it settled
pub record IsReading (names : Names) (known : Known) (counts : Counts) : Type 0 where
  pub history : List Settlement
  pub lawful : IsLawful (progress_of names history)
  pub mine : tally_of names.race.network known.standing.number history ≡ known.tally
  pub told : AreCounts history counts
  pub at_least : known.tally.events ≤ counts.count

-- the schedule is what is kept of the history, with its flowspan, or nothing is kept
abbrev pub IsKeptOf : Network → List Settlement → Option Solution → Type 0
IsKeptOf network history best = MatchOption best ((kept_of network history ≡ None) × (best_bound network history ≡ no_flowspan network))
    (λ solution. (kept_of network history ≡ Some solution.offsets) × IsSolved network solution × (solution.flowspan ≡ best_bound network history))

-- there is none where the teller solved nothing, and else its flowspan is at most the least that the teller solved
abbrev pub IsNoWorse : Network → Known → Option Solution → Type 0
IsNoWorse network known best = MatchOption best (known.tally.solved ≡ no_flowspan network) (λ solution. IsSolved network solution × (solution.flowspan ≤ known.tally.solved))

-- it is what is kept of a lawful history of this search in which the teller's tally is its share, so that it is no worse than what the teller solved
pub record IsBest (names : Names) (known : Known) (best : Option Solution) : Type 0 where
  pub history : List Settlement
  pub lawful : IsLawful (progress_of names history)
  pub mine : tally_of names.race.network known.standing.number history ≡ known.tally
  pub kept : IsKeptOf names.race.network history best
  pub no_worse : IsNoWorse names.race.network known best

-- why an event isn't settled, after a lawful history of this search in which the teller's tally is its share
pub record IsRefused (names : Names) (known : Known) (event : Event) (fault : BookFault) : Type 0 where
  pub history : List Settlement
  pub lawful : IsLawful (progress_of names history)
  pub mine : tally_of names.race.network known.standing.number history ≡ known.tally
  pub first_reason : IsFault names.race.network names.limit history event fault

-- why the event of that number isn't
abbrev pub IsRefusedAt : Names → Known → List Event → ℕ → BookFault → Type 0
IsRefusedAt names known events number fault = IsSomeAnd (slice_get events number) (λ event. IsRefused names known event fault)
