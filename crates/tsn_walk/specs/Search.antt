-- What a search reads, and one in a book of its own.
--     AreTablesOf        the tables of a network
--     IsSearchBy         whose book it is who settles, by which tables
--     IsFurther          what a teller's settlements leave as it was
use Rattle.std.specs.Prelude.{◌≡◌, ℕ, ◌<◌, ◌≤◌, List, ◌++◌, length, All}
use Rattle.tsn_model.specs.Network.{Network}
use Rattle.tsn_model.specs.Search.{Settlement}
use Rattle.tsn_branch.specs.declared.tables.Tables.{Tables}
use Rattle.tsn_book.specs.Book.{Progress}

-- the times are those of the network; the conflicts and loads of tables are always those of their times
pub record AreTablesOf (network : Network) (tables : Tables) : Type 0 where
  pub timing : tables.timing.now ≡ network

-- the book is of a search for the network of the tables, at most so many are to be settled in it, and the number is that of one of its tellers
pub record IsSearchBy (tables : Tables) (teller until : ℕ) (book : Progress) : Type 0 where
  pub of_network : AreTablesOf book.network tables
  pub within : until ≤ book.limit
  pub is_teller : teller < book.tellers

-- the book of the same search, in which the same is settled, and maybe more after it, all of that by this teller
pub record IsFurther (teller : ℕ) (old new : Progress) : Type 0 where
  pub same_network : new.network ≡ old.network
  pub same_tellers : new.tellers ≡ old.tellers
  pub same_limit : new.limit ≡ old.limit
  pub later : List Settlement
  pub by_teller : All (λ settlement. settlement.teller ≡ teller) later
  pub follows : new.history ≡ old.history ++ later
  pub more : length old.history ≤ length new.history
