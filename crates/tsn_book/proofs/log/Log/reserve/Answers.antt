use Rattle.std.proofs.Common.{arith}
use Rattle.std.proofs.lemmas.Grind.{common_steps}
use Rattle.std.proofs.lemmas.Result.{err_from_is_err_and}
use Rattle.tsn_book.proofs.log.Log.reserve.Goals as goal

pub same-self-in_err-piece : goal.same-self-in_err-piece
same-self-in_err-piece c = grind (arith, common_steps) steps 2000000

pub same-self-2 : goal.same-self-2
same-self-2 c = grind (arith, common_steps) steps 2000000

pub begin-requires : goal.begin-requires
begin-requires c = grind (arith, common_steps) steps 2000000

pub returns-in_err-piece-clause-room : goal.returns-in_err-piece-clause-room
returns-in_err-piece-clause-room c =
    let p = err_from_is_err_and c.from_residual.result c.from_residual.ensures.1 in
    rw p.1 tt
