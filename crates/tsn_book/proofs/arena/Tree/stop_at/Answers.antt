use Rattle.std.proofs.Common.{refl}
use Rattle.tsn_model.specs.Search.{split}
use Rattle.tsn_book.specs.Arena.{paths_of, path_at}
use Rattle.tsn_book.proofs.Places.{placed_as, stops_settled}
use Rattle.tsn_book.proofs.arena.Tree.stop_at.Goals as goal

pub returns-in-Split : goal.returns-in-Split
returns-in-Split c =
    let self = c.args.self.now in
    let placed = placed_as c.requires.tree c.args.place c.requires.place _ _ c.status-status.ensures.known c.in-Split.is in
    stops_settled c.requires.tree c.args.place (split c.in-Split.triple) c.in-Split.event placed.0 (path_at (paths_of self.places.origins) c.args.place) refl

pub returns-in-Leaf : goal.returns-in-Leaf
returns-in-Leaf c =
    let self = c.args.self.now in
    let placed = placed_as c.requires.tree c.args.place c.requires.place _ _ c.status-status.ensures.known c.in-Leaf.is in
    stops_settled c.requires.tree c.args.place placed.0 c.in-Leaf.event placed.1 (path_at (paths_of self.places.origins) c.args.place) refl
