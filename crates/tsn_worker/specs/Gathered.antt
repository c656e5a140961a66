-- Tellers that have come back, and what they have gathered.
--     AreBack         tellers that have come back
--     tellers_by      what the tellers of a closed seat know, after a history
--     IsGathered      the word in the end, and the book: the state in which a search by several ended
use Rattle.std.specs.Prelude.{◌≡◌, ℕ, ◌≤◌, List, [], map, length, All}
use Rattle.tsn_model.specs.Network.{Network}
use Rattle.tsn_model.specs.Certificate.{beyond}
use Rattle.tsn_model.specs.Core.{IsSound, IsQuiet}
use Rattle.tsn_model.specs.Search.{Settlement, tally_of, best_bound, open_paths}
use Rattle.tsn_incumbent.specs.declared.standing.Standing.{Standing}
use Rattle.tsn_incumbent.specs.Standings.{Ended}
use Rattle.tsn_book.specs.Book.{Progress}
use Rattle.tsn_incumbent.specs.Teller.{Known, IsEven}
use Rattle.tsn_incumbent.specs.Gathered.{IsInOrder, state_of}

-- as many as there were, each even, in order
pub record AreBack (count : ℕ) (tellers : List Known) : Type 0 where
  pub counted : length tellers ≡ count
  pub order : IsInOrder tellers
  pub even : All IsEven tellers

-- what each had seen and posted when the seat was closed, and the tally of its settlements
abbrev pub tellers_by : Ended → List Settlement → List Known
tellers_by ended history = map (λ standing. record { standing = standing; tally = tally_of ended.seat.race.network standing.number history }) ended.seat.standings

-- The seat that was closed is that of all tellers of the word. Each had posted the least flowspan that it solved, and pruned by nothing but what is worse than
-- what it had seen; together they settled what the book has. The word, what they had seen and posted, and the book's history are a sound state of
-- the shared search; where nothing is open it has come to its end.
pub record IsGathered (ended : Ended) (book : Progress) : Type 0 where
  pub network : book.network ≡ ended.seat.race.network
  pub back : AreBack ended.seat.race.tellers (tellers_by ended book.history)
  pub pruned : All (λ known. beyond book.network known.standing.seen ≤ known.tally.pruned) (tellers_by ended book.history)
  pub least : ended.word ≡ best_bound book.network book.history
  pub sound : IsSound book.network (state_of ended.word (tellers_by ended book.history) book.history)
  pub quiet : open_paths book.history ≡ [] → IsQuiet (state_of ended.word (tellers_by ended book.history) book.history)
