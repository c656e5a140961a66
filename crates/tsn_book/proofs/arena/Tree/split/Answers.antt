use Rattle.std.proofs.Common.{length, refl}
use Rattle.tsn_book.proofs.Growing.{split_grows}
use Rattle.tsn_book.proofs.Closing.{split_flags}
use Rattle.tsn_book.proofs.arena.Tree.split.Goals as goal

pub returns-clause-tree : goal.returns-clause-tree
returns-clause-tree c =
    let self = c.args.self.now in
    rw (c.split.ensures.origins, c.split.ensures.statuses, c.settle_next.ensures.items, c.requires.next)
    (split_grows c.requires.tree c.args.place c.args.teller (length self.places.origins)
    c.len.result c.args.triple refl c.len.ensures.count c.requires.open c.requires.right).0

pub returns-clause-history : goal.returns-clause-history
returns-clause-history c =
    let self = c.args.self.now in
    rw (c.split.ensures.origins, c.settle_next.ensures.items, c.requires.next)
    (split_grows c.requires.tree c.args.place c.args.teller (length self.places.origins)
    c.len.result c.args.triple refl c.len.ensures.count c.requires.open c.requires.right).1

pub returns-clause-closed : goal.returns-clause-closed
returns-clause-closed c =
    let self = c.args.self.now in
    rw (c.split.ensures.statuses, c.push_reserved-2.ensures.items, c.push_reserved.ensures.items)
    (split_flags c.requires.tree c.args.closed.now.items c.args.place (length self.places.origins) c.len.result c.args.triple
    c.requires.closed c.requires.«open» refl)
