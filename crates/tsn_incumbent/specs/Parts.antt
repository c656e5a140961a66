-- The parts of a search before they are shared.
use Rattle.std.specs.Prelude.{◌≡◌, ℕ, ◌<◌, List, []}
use Rattle.tsn_model.specs.Network.{IsWellFormed}
use Rattle.tsn_incumbent.specs.Standings.{Seated}
use Rattle.tsn_incumbent.specs.Halves.{Half, halves_from}
use Rattle.tsn_book.specs.Book.{Progress}
use Rattle.tsn_incumbent.specs.Names.{Names, progress_of}
use Rattle.tsn_incumbent.specs.Teller.{no_event, rest_of}

-- one seat for all numbers, two halves for each, and a book in which nothing is settled
pub record AreParts (names : Names) (tellers : ℕ) (seat : Seated) (pairs : List (Half × Half)) (book : Progress) : Type 0 where
  pub formed : IsWellFormed names.race.network
  pub some : 0 < tellers
  pub counted : names.race.tellers ≡ tellers
  pub seated : seat ≡ rest_of names 0 tellers
  pub paired : pairs ≡ halves_from names.halves (no_event names.race.network) 0 tellers
  pub empty : book ≡ progress_of names []
