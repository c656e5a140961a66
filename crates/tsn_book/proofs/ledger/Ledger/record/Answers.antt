use Rattle.std.proofs.Common.{◌++◌, ◌∷◌, [], List, length, sym, ap, ◌∙◌, arith}
use Rattle.std.proofs.lemmas.List.{length-set}
use Rattle.std.proofs.lemmas.Grind.{common_steps}
use Rattle.tsn_model.specs.declared.Decision.{Decision}
use Rattle.tsn_model.specs.Search.{Settlement}
use Rattle.tsn_book.specs.Arena.{path_at, paths_of, settled_in}
use Rattle.tsn_book.specs.Ledger.{next_outcome}
use Rattle.tsn_book.proofs.Asking.{place_open, length-history_of}
use Rattle.tsn_book.proofs.Bookkeeping.{book_grows}
use Rattle.tsn_book.proofs.Ledgers.{same_path, within_places, allowed_at}
use Rattle.tsn_book.proofs.ledger.Ledger.record.Goals as goal

pub settle-requires-clause-open : goal.settle-requires-clause-open
settle-requires-clause-open c =
    let ledger = c.args.self.now in
    let allowed = allowed_at ledger c.requires.agrees c.args.place (next_outcome ledger) c.requires.allowed in
    place_open c.requires.agrees.tree c.args.place (within_places ledger c.requires.agrees c.args.place c.requires.place) allowed.is_open

pub settle-requires-clause-right : goal.settle-requires-clause-right
settle-requires-clause-right c = (allowed_at c.args.self.now c.requires.agrees c.args.place (next_outcome c.args.self.now) c.requires.allowed).is_right

pub returns-clause-agrees : goal.returns-clause-agrees
returns-clause-agrees c =
    let ledger = c.args.self.now in
    let tree = ledger.tree in
    let after = c.settle.new.self in
    let place = c.args.place in
    let path = path_at (paths_of tree.places.origins) place in
    let outcome = next_outcome ledger in
    let allowed = allowed_at ledger c.requires.agrees place outcome c.requires.allowed in
    book_grows c.requires.agrees c.args.teller path outcome c.requires.teller c.requires.limit allowed c.after_next-after.result
    (record {
      opened = c.after_next-after.ensures.open_nodes;
      lowered = c.after_next-after.ensures.best;
      number = length tree.events.items;
      next = sym (length-history_of tree.places.origins tree.events.items);
      keeping = c.after_next-after.ensures.kept;
      tallying = c.after_next-after.ensures.tally;
    })
    after.network after.places.origins after.places.statuses after.events.items c.settle.new.closed.items
    c.settle.ensures.network c.settle.ensures.tree c.settle.ensures.closed c.settle.ensures.history

pub returns-clause-ok : goal.returns-clause-ok
returns-clause-ok c =
    let ledger = c.args.self.now in
    let history = settled_in ledger.tree in
    let tellers = length-set ledger.tallies.items c.args.teller c.after_next-after.result.tally in
    let longer =
    c.settle.ensures.history
    ∙ ap (λ (path : List Decision). let one : Settlement = record {
      teller = c.args.teller;
      event = record { path = path; outcome = next_outcome ledger };
    } in history ++ one ∷ []) (same_path ledger c.requires.agrees c.args.place) in
    λ i. record { network = c.settle.ensures.network i; tellers = tellers i; limit = ledger.bounds.limit; history = longer i }

pub settle-requires-clause-tree : goal.settle-requires-clause-tree
settle-requires-clause-tree c = grind (arith, common_steps) steps 2000000

pub returns-clause-waiting : goal.returns-clause-waiting
returns-clause-waiting c = grind (arith, common_steps) steps 2000000
