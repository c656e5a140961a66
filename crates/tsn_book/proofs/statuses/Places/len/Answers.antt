use Rattle.std.proofs.Common.{length, arith, ap}
use Rattle.tsn_book.specs.Places.{Placed}
use Rattle.tsn_book.proofs.Branchings.{length-origins_of}
use Rattle.tsn_book.proofs.statuses.Places.len.Goals as goal

pub returns-clause-count : goal.returns-clause-count
returns-clause-count c =
    let inside = c.self.inside in
    omega (
      arith,
      c.len.ensures,
      inside.marks.ok,
      c.self.invariant.counted,
      length-origins_of inside.splits.items,
      ap (λ (places : Placed). length places.origins) c.self.view_is,
    )
