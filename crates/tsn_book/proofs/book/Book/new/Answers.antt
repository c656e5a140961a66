use Rattle.std.proofs.Common.{◌≡◌, sym, ap, ◌∙◌, subst}
use Rattle.tsn_model.specs.Network.{IsWellFormed}
use Rattle.tsn_book.proofs.Bookkeeping.{start_book}
use Rattle.tsn_book.proofs.book.Book.new.Goals as goal

pub invariant_of-result : goal.invariant_of-result
invariant_of-result c =
    let tree = c.in_ok-tree.tree in
    let known = c.in_ok-tree.ensures in
    let copied : tree.network ≡ c.args.timing.now = known.network in
    let cycle : c.cycle-past_cycle.result ≡ tree.network.cycle = c.cycle-past_cycle.ensures.value ∙ ap (λ n. n.cycle) (sym copied) in
    record {
      agrees = rw c.in_ok-closed.ensures (rw c.in_ok-tallies.ensures
          (start_book known.tree c.args.limit c.cycle-past_cycle.result c.args.tellers known.statuses known.history known.events cycle
          (subst IsWellFormed (sym copied) c.cycle-past_cycle.ensures.well_formed)));
      none_waits = known.waiting;
    }
