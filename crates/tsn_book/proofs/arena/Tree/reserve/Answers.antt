use Rattle.std.proofs.lemmas.Result.{err_from_is_err_and}
use Rattle.tsn_book.proofs.arena.Tree.reserve.Goals as goal

pub returns-in_err-reserve-clause-room : goal.returns-in_err-reserve-clause-room
returns-in_err-reserve-clause-room c =
    let p = err_from_is_err_and c.from_residual.result c.from_residual.ensures.1 in
    rw p.1 tt

pub returns-in_err-reserve-clause-room_closed : goal.returns-in_err-reserve-clause-room_closed
returns-in_err-reserve-clause-room_closed c =
    let p = err_from_is_err_and c.from_residual.result c.from_residual.ensures.1 in
    rw p.1 tt

pub returns-in_err-reserve-clause-origins : goal.returns-in_err-reserve-clause-origins
returns-in_err-reserve-clause-origins c = c.in_err-reserve.ensures.origins

pub returns-in_err-reserve-clause-statuses : goal.returns-in_err-reserve-clause-statuses
returns-in_err-reserve-clause-statuses c = c.in_err-reserve.ensures.statuses

pub returns-in_err-reserve-clause-small : goal.returns-in_err-reserve-clause-small
returns-in_err-reserve-clause-small c = c.in_err-reserve.ensures.small
