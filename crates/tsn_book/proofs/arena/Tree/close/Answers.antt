use Rattle.std.proofs.Common.{◌≡◌, length, set, subst, sym, arith}
use Rattle.std.proofs.lemmas.List.{length-set}
use Rattle.tsn_book.specs.declared.statuses.Status.TheVariants.{Leaf}
use Rattle.tsn_book.specs.Arena.{IsNewLeaf}
use Rattle.tsn_book.specs.Log.{next_of}
use Rattle.tsn_book.proofs.Growing.{leaf_grows}
use Rattle.tsn_book.proofs.Closing.{new_leaf, written_back}
use Rattle.tsn_book.proofs.arena.Tree.close.Goals as goal

pub mark-requires-clause-tree : goal.mark-requires-clause-tree
mark-requires-clause-tree c =
    let self = c.args.self.now in
    let number : c.len.result ≡ length self.events.items = c.len.ensures.count in
    rw (c.close.ensures.origins, c.close.ensures.statuses, c.settle_next.ensures.items)
    (leaf_grows c.requires.tree c.args.place c.args.teller c.len.result (next_of self.events) number c.requires.«open» c.requires.right c.requires.leaf).0

pub mark-requires-clause-leaf : goal.mark-requires-clause-leaf
mark-requires-clause-leaf c =
    let self = c.args.self.now in
    rw c.close.ensures.statuses
    (subst (λ flags. IsNewLeaf (set self.places.statuses c.args.place (Leaf c.len.result)) flags c.args.place) (sym c.deref_mut.ensures.value)
    (new_leaf self.places.statuses c.args.closed.now.items c.args.place c.len.result c.requires.closed c.requires.«open»))

pub returns-clause-tree : goal.returns-clause-tree
returns-clause-tree c =
    let self = c.args.self.now in
    let number : c.len.result ≡ length self.events.items = c.len.ensures.count in
    rw (c.close.ensures.origins, c.close.ensures.statuses, c.settle_next.ensures.items)
    (leaf_grows c.requires.tree c.args.place c.args.teller c.len.result (next_of self.events) number c.requires.«open» c.requires.right c.requires.leaf).0

pub returns-clause-history : goal.returns-clause-history
returns-clause-history c =
    let self = c.args.self.now in
    let number : c.len.result ≡ length self.events.items = c.len.ensures.count in
    rw (c.close.ensures.origins, c.settle_next.ensures.items)
    (leaf_grows c.requires.tree c.args.place c.args.teller c.len.result (next_of self.events) number c.requires.«open» c.requires.right c.requires.leaf).1

pub returns-clause-closed : goal.returns-clause-closed
returns-clause-closed c =
    let self = c.args.self.now in
    let was = c.args.closed.now in
    let same = written_back c.mark.new.closed was.items was.len (omega (arith, was.ok))
    (omega (arith, c.mark.ensures.counted, c.requires.closed.counted, length-set self.places.statuses c.args.place (Leaf c.len.result))) in
    rw same c.mark.ensures
