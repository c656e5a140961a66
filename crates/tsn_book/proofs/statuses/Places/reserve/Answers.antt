use Rattle.std.proofs.Common.{length, arith, ap}
use Rattle.std.proofs.lemmas.Result.{err_from_is_err_and}
use Rattle.tsn_book.proofs.Branchings.{length-origins_of}
use Rattle.tsn_book.proofs.statuses.Places.reserve.Goals as goal

pub returns-in_err-try_reserve-clause-small : goal.returns-in_err-try_reserve-clause-small
returns-in_err-try_reserve-clause-small c =
    let inside = c.self.inside in
    omega (arith, inside.marks.ok, inside.marks.small, c.self.invariant.counted, length-origins_of inside.splits.items)

pub returns-clause-small : goal.returns-clause-small
returns-clause-small c =
    let inside = c.self.inside in
    omega (
      arith,
      inside.marks.ok,
      inside.marks.small,
      c.self.invariant.counted,
      length-origins_of c.try_reserve-2.new.self.items,
      ap length c.try_reserve-2.ensures.items,
    )

pub returns-in_err-try_reserve-clause-room : goal.returns-in_err-try_reserve-clause-room
returns-in_err-try_reserve-clause-room c =
    let p = err_from_is_err_and c.from_residual.result c.from_residual.ensures.1 in
    rw p.1 tt
