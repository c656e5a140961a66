-- Which search it is.
use Rattle.std.specs.Prelude.{◌≡◌, ℕ, List, []}
use Rattle.atomic_table.specs.Seated.{TableId}
use Rattle.tsn_model.specs.Search.{Settlement}
use Rattle.tsn_incumbent.specs.Standings.{Race}
use Rattle.tsn_book.specs.Book.{Progress}

-- one word with its network and how many tellers there are, the table of their halves, and how many events may be settled
pub record Names : Type 0 where
  pub race : Race
  pub halves : TableId
  pub limit : ℕ

abbrev pub no_table : TableId
no_table = record { words = 0; slots = 0; views_name = 0; atom = 0; block = 0; offset = 0; slot_names = [] }

abbrev pub no_names : Names
no_names = record { race = record { table = no_table; network = record { cycle = 0; slack = 0; procs = []; links = []; streams = [] }; tellers = 0 }; halves = no_table; limit = 0 }

-- what a book of this search has, after that history
abbrev pub progress_of : Names → List Settlement → Progress
progress_of names history = record { network = names.race.network; tellers = names.race.tellers; limit = names.limit; history = history }

-- the book is of this search
pub record IsBookOf (names : Names) (book : Progress) : Type 0 where
  pub network : book.network ≡ names.race.network
  pub tellers : book.tellers ≡ names.race.tellers
  pub limit : book.limit ≡ names.limit
