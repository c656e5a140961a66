-- What is known once all tellers have come back.
use Rattle.std.specs.Prelude.{◌≡◌, ℕ, ◌<◌, ◌≤◌, List, map, length, slice_index_or, Any, IsPermutation}
use Rattle.tsn_model.specs.Network.{Network}
use Rattle.tsn_model.specs.Certificate.{beyond}
use Rattle.tsn_model.specs.Search.{Settlement, tally_of}
use Rattle.tsn_model.specs.Core as core
use Rattle.tsn_incumbent.specs.declared.standing.Standing.{Standing}
use Rattle.tsn_incumbent.specs.Teller.{Known}

-- the tellers stand in the order of their numbers
abbrev pub IsInOrder : List Known → Type 0
IsInOrder tellers = (k : ℕ) (d : Known) → k < length tellers → (slice_index_or tellers k d).standing.number ≡ k

-- each number below their count is a teller's
abbrev pub AreAll : List Known → Type 0
AreAll tellers = (number : ℕ) → number < length tellers → Any (λ known. known.standing.number ≡ number) tellers

-- the same tellers in the order of their numbers
pub record AreOrdered (tellers ordered : List Known) : Type 0 where
  pub same : IsPermutation tellers ordered
  pub in_order : IsInOrder ordered

abbrev pub standings_of : List Known → List Standing
standings_of tellers = map (λ known. known.standing) tellers

-- the teller's share is its tally in the history, and it has pruned by nothing but what is worse than what it has seen
pub record Agrees (network : Network) (history : List Settlement) (known : Known) : Type 0 where
  pub share : known.tally ≡ tally_of network known.standing.number history
  pub pruned : beyond network known.standing.seen ≤ known.tally.pruned

-- the word, what each teller has seen and posted, and the history
abbrev pub state_of : ℕ → List Known → List Settlement → core.State
state_of word tellers history = record { word = word; tellers = map (λ known. record { seen = known.standing.seen; posted = known.standing.posted }) tellers; history = history }
