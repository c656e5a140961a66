use Rattle.std.proofs.Common.{◌<◌, length, arith, refl}
use Rattle.tsn_book.proofs.Places.{placed_as, stands_as, root_path}
use Rattle.tsn_book.proofs.Closing.{origin_is, parent_split, parent_is}
use Rattle.tsn_book.proofs.arena.Tree.parent.Goals as goal

pub returns-in_default : goal.returns-in_default
returns-in_default c =
    let origin = origin_is c.requires.tree c.args.place c.requires.place _ _ c.origin-origin.ensures c.in_default.is in
    root_path c.args.self.now.places.origins c.args.place (omega (arith, c.requires.place, c.requires.tree.counted)) origin.0

pub unreachable-requires : goal.unreachable-requires
unreachable-requires c =
    let place = c.args.place in
    let parent = c.in-Child.parent in
    let origin = origin_is c.requires.tree place c.requires.place _ _ c.origin-origin.ensures c.in-Child.is in
    let placed = placed_as c.requires.tree parent (omega (arith, origin.1, c.requires.place, c.requires.tree.counted)) _ _ c.status-status.ensures.known refl in
    parent_split c.requires.tree place parent c.in-Child.field-1 c.requires.place origin.0 origin.1 c.status-status.result placed c.in_default-status.not-Split

pub returns : goal.returns
returns c =
    let place = c.args.place in
    let parent = c.in-Child.parent in
    let origin = origin_is c.requires.tree place c.requires.place _ _ c.origin-origin.ensures c.in-Child.is in
    let there : parent < length c.args.self.now.places.statuses = omega (arith, origin.1, c.requires.place) in
    let stands = stands_as c.args.self.now.places.statuses parent there _ _ c.status-status.ensures.known c.in-Split.is in
    parent_is c.requires.tree place parent c.in-Child.field-1 c.requires.place origin.0 origin.1 c.in-Split.triple c.in-Split.children c.in-Split.event stands
