use Rattle.std.proofs.Common.{◌∷◌, Contains, sym, subst}
use Rattle.tsn_model.proofs.Lists.{Contains-head}
use Rattle.tsn_argue.proofs.FillingLemmas.{among_too}
use Rattle.tsn_argue.proofs.filling.is_among.Goals as goal

pub returns-then-is_same : goal.returns-then-is_same
returns-then-is_same c =
    subst (Contains (c.args.first ∷ c.args.others.now)) (sym c.if-is_same.ensures) (Contains-head c.args.first c.args.others.now)

pub returns : goal.returns
returns c = among_too c.args.first c.args.frame c.args.others.now c.has.result c.if-is_same.ensures c.has.ensures
