use Rattle.tsn_codec.proofs.cert.misfit_in.Goals as goal

pub returns-in-Ok : goal.returns-in-Ok
returns-in-Ok c = c.misfit_behind.ensures c.args.tokens.now c.in-Ok.ensures
