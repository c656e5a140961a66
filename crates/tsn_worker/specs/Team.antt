-- What several workers leave.
--     IsGatheredIn    a book that its caller went on with, from what they gathered
--     HasWord         the word that they shared, beside what their search left
--     IsTeamwork      what is found, with that word
--     IsGatheredFor, IsTeamAnswer     what is answered, with that word
--     IsByTeam        what is answered, where the word isn't handed out
use Rattle.std.specs.Prelude.{◌≡◌, ◌≤◌, ◌+◌, ℕ, List, ◌++◌, All, Option, IsSomeAnd}
use Rattle.tsn_model.specs.Network.{Network}
use Rattle.tsn_model.specs.Search.{Settlement}
use Rattle.tsn_incumbent.specs.Standings.{Ended}
use Rattle.tsn_book.specs.Book.{Progress, IsLawful}
use Rattle.tsn_answer.specs.declared.answer.Answer.{Answer}
use Rattle.tsn_answer.specs.declared.found.Found.{Found}
use Rattle.tsn_answer.specs.declared.found.Found.TheVariants as found
use Rattle.tsn_answer.specs.Answer.{HasTree, IsOfBook}
use Rattle.tsn_worker.specs.Gathered.{IsGathered}

-- the word was shared by so many workers and their caller, who gathered the book with its first settlements; the others are the caller's, who is the last
-- teller: so whatever a worker has settled was gathered with that word
pub record IsGatheredIn (workers : ℕ) (ended : Ended) (book : Progress) : Type 0 where
  pub tellers : ended.seat.race.tellers ≡ workers + 1
  pub first : List Settlement
  pub later : List Settlement
  pub is : book.history ≡ first ++ later
  pub by_caller : All (λ settlement. settlement.teller ≡ workers) later
  pub gathered : IsGathered ended (record book { history = first })

-- where there were several workers, there is their word, and the book is theirs
abbrev pub HasWord : ℕ → Option Ended → Progress → Type 0
HasWord workers word book = 2 ≤ workers → IsSomeAnd word (λ ended. IsGatheredIn workers ended book)

-- what so many workers found; an argument is nobody's book, nor is there one where the conflict-driven search gave up
abbrev pub IsTeamwork : ℕ → Option Ended → Found → Type 0
IsTeamwork workers word (found.Finished book) = HasWord workers word book
IsTeamwork workers word (found.Argued plan argument) = Unit {0}
IsTeamwork workers word (found.Stopped book known) = HasWord workers word book
IsTeamwork workers word (found.GaveUp known count) = Unit {0}

-- the word is that of a book of a lawful search for the network, and the answer is that book, or what it tells: the plan that it has kept, its tree, and how
-- many nodes were settled in it
pub record IsGatheredFor (network : Network) (workers : ℕ) (answer : Answer) (ended : Ended) : Type 0 where
  pub book : Progress
  pub same_network : book.network ≡ network
  pub lawful : IsLawful book
  pub gathered : IsGatheredIn workers ended book
  pub answered : IsOfBook book answer

-- where there were several workers, and the answer is a tree or a book, there is their word for it. A tree doesn't say who settled its nodes: of an answer
-- that is one, this says no more than that the word is that of a search which may have left it
abbrev pub IsTeamAnswer : Network → ℕ → Option Ended → Answer → Type 0
IsTeamAnswer network workers word answer = 2 ≤ workers → HasTree answer → IsSomeAnd word (IsGatheredFor network workers answer)

-- there is such a word. Which one it was isn't said; but no other fits what workers have settled in a book that is answered, than one whose tellers did so
abbrev pub IsByTeam : Network → ℕ → Answer → Type 0
IsByTeam network workers answer = (word : Option Ended) × IsTeamAnswer network workers word answer
