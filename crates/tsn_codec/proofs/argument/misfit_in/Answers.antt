use Rattle.tsn_codec.proofs.Files.{begins_argument}
use Rattle.tsn_codec.proofs.argument.misfit_in.Goals as goal

pub returns-in-Ok : goal.returns-in-Ok
returns-in-Ok c = c.misfit_behind.ensures c.args.tokens.now (begins_argument _ _ _ c.in-Ok.ensures)
