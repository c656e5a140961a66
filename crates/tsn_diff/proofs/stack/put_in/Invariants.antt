use Rattle.tsn_diff.proofs.stack.put_in.Given as goal

abbrev pub ghost-spread : goal.ghost-spread
ghost-spread g a = g.base
