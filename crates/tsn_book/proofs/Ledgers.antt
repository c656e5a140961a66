-- What a ledger's parts say of its places.
use Rattle.std.proofs.Common.{◌≡◌, ℕ, ◌<◌, List, length, arith, sym, ap, subst}
use Rattle.tsn_model.specs.Search.{Outcome, made_paths, IsAllowed}
use Rattle.tsn_model.specs.Walk.{path_made}
use Rattle.tsn_book.specs.declared.ledger.Ledger.{Ledger}
use Rattle.tsn_book.specs.declared.log.Settled.{Settled}
use Rattle.tsn_book.specs.Arena.{path_at, paths_of, history_of, settled_in}
use Rattle.tsn_book.specs.Book.{Progress, IsLawful}
use Rattle.tsn_book.specs.Ledger.{IsLedger, progress_of}
use Rattle.tsn_book.proofs.Asking.{length-made, path_made-at}
use Rattle.tsn_book.proofs.Bookkeeping.{lawful}

module _ (ledger : Ledger) (agrees : IsLedger ledger) (place : ℕ) where
  -- the path of a place, by the places and by the history
  pub same_path : path_at (paths_of ledger.tree.places.origins) place ≡ path_made (settled_in ledger.tree) place
  same_path = path_made-at agrees.tree place

  pub within_places : place < length (made_paths (settled_in ledger.tree)) → place < length ledger.tree.places.origins
  within_places within = omega (arith, within, length-made agrees.tree)

  pub allowed_at : (outcome : Outcome) → IsAllowed ledger.tree.network (settled_in ledger.tree)
      (record { path = path_made (settled_in ledger.tree) place; outcome = outcome })
      → IsAllowed ledger.tree.network (settled_in ledger.tree) (record { path = path_at (paths_of ledger.tree.places.origins) place; outcome = outcome })
  allowed_at outcome allowed =
      subst (λ path. IsAllowed ledger.tree.network (settled_in ledger.tree) (record { path = path; outcome = outcome })) (sym same_path) allowed

-- there are as many places as the history made
pub places_made : (ledger : Ledger) → IsLedger ledger → length ledger.tree.places.origins ≡ length (made_paths (settled_in ledger.tree))
places_made ledger agrees = length-made agrees.tree

pub ledger_lawful : (ledger : Ledger) → IsLedger ledger → IsLawful (progress_of ledger)
ledger_lawful ledger agrees =
    let tree = ledger.tree in
    lawful agrees

-- the progress, where the log has these events
abbrev pub progress_by : Ledger → List Settled → Progress
progress_by ledger events =
    record {
      network = ledger.tree.network;
      tellers = length ledger.tallies.items;
      limit = ledger.bounds.limit;
      history = history_of ledger.tree.places.origins events;
    }

-- what waits changes nothing of it
pub same_progress : (ledger : Ledger) (events : List Settled) → events ≡ ledger.tree.events.items → progress_by ledger events ≡ progress_of ledger
same_progress ledger events same = ap (progress_by ledger) same
