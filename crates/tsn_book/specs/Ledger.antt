-- What a book is made of.
use Rattle.std.specs.Prelude.{◌≡◌, ℕ, List, [], ◌∷◌, ◌++◌, length}
use Rattle.tsn_model.specs.declared.Decision.{Decision}
use Rattle.tsn_model.specs.Search.{Outcome, Event}
use Rattle.tsn_conflict.specs.Outcome.{outcome_of}
use Rattle.tsn_book.specs.declared.ledger.Ledger.{Ledger}
use Rattle.tsn_book.specs.Log.{next_of}
use Rattle.tsn_book.specs.Arena.{settled_in}
use Rattle.tsn_book.specs.Book.{Progress, IsBook}
use Rattle.tsn_book.specs.Below.{settlements_by}

-- what was settled so far
abbrev pub progress_of : Ledger → Progress
progress_of ledger = record { network = ledger.tree.network; tellers = length ledger.tallies.items; limit = ledger.bounds.limit; history = settled_in ledger.tree }

-- its parts agree
abbrev pub IsLedger : Ledger → Type 0
IsLedger ledger =
    IsBook ledger.tree.network ledger.tree.places.origins ledger.tree.places.statuses ledger.tree.events.items ledger.closed.items
    ledger.bounds.limit ledger.open_nodes ledger.bounds.best ledger.bounds.kept ledger.tallies.items

-- they agree, and nothing waits to be settled
pub record IsWhole (ledger : Ledger) : Type 0 where
  pub agrees : IsLedger ledger
  pub none_waits : ledger.tree.events.waiting ≡ []

-- what the look that waits first found
abbrev pub next_outcome : Ledger → Outcome
next_outcome ledger = outcome_of (next_of ledger.tree.events)

-- the progress with one more settlement
abbrev pub with_one : Ledger → ℕ → List Decision → Outcome → Progress
with_one ledger teller path outcome = record {
  network = ledger.tree.network;
  tellers = length ledger.tallies.items;
  limit = ledger.bounds.limit;
  history = settled_in ledger.tree ++ record { teller = teller; event = record { path = path; outcome = outcome } } ∷ [];
}

-- the progress with these events
abbrev pub with_all : Ledger → ℕ → List Event → Progress
with_all ledger teller events = record {
  network = ledger.tree.network;
  tellers = length ledger.tallies.items;
  limit = ledger.bounds.limit;
  history = settled_in ledger.tree ++ settlements_by teller events;
}
