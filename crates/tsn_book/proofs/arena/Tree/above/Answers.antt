use Rattle.std.proofs.Common.{arith}
use Rattle.tsn_book.proofs.Places.{root_path}
use Rattle.tsn_book.proofs.Closing.{origin_is}
use Rattle.tsn_book.proofs.Above.{above_at, root_made}
use Rattle.tsn_book.proofs.arena.Tree.above.Goals as goal

pub returns-in-Root : goal.returns-in-Root
returns-in-Root c =
    let self = c.args.self.now in
    let origin = origin_is c.requires.tree c.args.place (omega (arith, c.requires.place, c.requires.tree.counted)) _ _ c.origin-origin.ensures c.in-Root.is in
    record {
      above = root_made c.requires.tree c.args.place (root_path self.places.origins c.args.place c.requires.place origin.0);
      few = omega (arith, c.requires.place, c.len-count.ensures.count, c.len-count.ensures.small);
    }

pub returns-in-Child : goal.returns-in-Child
returns-in-Child c =
    let origin = origin_is c.requires.tree c.args.place (omega (arith, c.requires.place, c.requires.tree.counted)) _ _ c.origin-origin.ensures c.in-Child.is in
    record {
      above = above_at c.requires.tree c.args.place c.in-Child.parent c.in-Child.decision c.requires.place origin.0 origin.1;
      few = omega (arith, c.requires.place, c.len-count.ensures.count, c.len-count.ensures.small);
    }
