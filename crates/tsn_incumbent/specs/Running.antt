-- What is true between any two steps on the shared word.
use Rattle.std.specs.Prelude.{◌≡◌, ℕ, ◌<◌, ◌≤◌, ltb, cond, List, [], length, slice_index, All, sum_by}
use Rattle.atomic_table.specs.Table.{State, Me}
use Rattle.tsn_model.specs.Network.{Network}
use Rattle.tsn_incumbent.specs.Flowspans.{IsIncumbent, no_flowspan}
use Rattle.tsn_incumbent.specs.declared.standing.Standing.{Standing}
use Rattle.tsn_incumbent.specs.declared.standing.SeatState.{SeatState}
use Rattle.tsn_incumbent.specs.Standings.{least, fresh_from, observed, posted, times, alone, without, merged, IsAtMostKnown, least_posted}

abbrev pub opening : Network → ℕ → SeatState
opening network tellers = record { timing = network; tellers = tellers; standings = fresh_from (no_flowspan network) 0 tellers }

abbrev pub spent : SeatState
spent = record { timing = record { cycle = 0; slack = 0; procs = []; links = []; streams = [] }; tellers = 0; standings = [] }

abbrev pub knowing : SeatState → List Standing → SeatState
knowing v standings = record { timing = v.timing; tellers = v.tellers; standings = standings }

abbrev pub others_of : ℕ → SeatState → SeatState
others_of number v = knowing v (without number v.standings)

abbrev pub alone_of : ℕ → SeatState → SeatState
alone_of number v = knowing v (alone number v.standings)

abbrev pub joined : SeatState → SeatState → SeatState
joined v w = knowing v (merged v.standings w.standings)

-- the word is at most what was seen, and what was posted is cycle + 1 or the flowspan of a valid schedule
abbrev pub Stands : Network → ℕ → Standing → Type 0
Stands network word p = (word ≤ p.seen) × IsIncumbent network p.posted

-- The word is the least posted of all numbers, or cycle + 1; it is at most each seen; it and each posted is cycle + 1 or the flowspan of a valid schedule;
-- and each number stands in one seat, once
pub record Fair (network : Network) (tellers word : ℕ) (views : List SeatState) : Type 0 where
  pub lowest : word ≡ least (λ v. least_posted network v.standings) (no_flowspan network) views
  pub incumbent : IsIncumbent network word
  pub stand : All (λ v. All (Stands network word) v.standings) views
  pub dealt : (number : ℕ) → sum_by (λ v. times number v.standings) views ≡ cond (ltb number tellers) 1 0

-- what a step finds
abbrev pub Found : SeatState → ℕ → Type 0
Found v word = IsIncumbent v.timing word × IsAtMostKnown word v.standings

module _ {S : Type 0} where
  abbrev pub Running : Network → ℕ → State S SeatState → Type 0
  Running network tellers s = (length s.words ≡ 1) × Fair network tellers (slice_index s.words 0) s.views

  abbrev pub Observed : Me S SeatState → ℕ → Me S SeatState → Type 0
  Observed me word after = (after ≡ (knowing me.0 (observed word me.0.standings), me.1)) × Found me.0 word

  abbrev pub Posted : ℕ → Me S SeatState → ℕ → Me S SeatState → Type 0
  Posted flowspan me word after = (after ≡ (knowing me.0 (posted flowspan me.0.standings), me.1)) × Found me.0 word

  abbrev pub Closed : Me S SeatState → ℕ → Me S SeatState → Type 0
  Closed me word after = (after ≡ (me.0, me.1)) × (((number : ℕ) → number < me.0.tellers → times number me.0.standings ≡ 1) → (word ≡ least_posted me.0.timing me.0.standings) × Found me.0 word)
