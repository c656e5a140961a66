use Rattle.std.proofs.Common.{sym, subst}
use Rattle.tsn_conflict.specs.Path.{Fits}
use Rattle.tsn_walk.proofs.Batching.{begun_at}
use Rattle.tsn_walk.proofs.below.descent_at.Goals as goal

pub at-requires-clause-fits : goal.at-requires-clause-fits
at-requires-clause-fits c = subst (Fits c.args.conflicts.now.triples) (sym c.in_ok-copy.ensures) (c.fits.ensures.0 c.if-fits.true)

pub returns-in_ok-copy : goal.returns-in_ok-copy
returns-in_ok-copy c =
    let triples = c.args.conflicts.now.triples in
    let fits = subst (Fits triples) (sym c.in_ok-copy.ensures) (c.fits.ensures.0 c.if-fits.true) in
    begun_at c.args.timing.now triples c.in_ok-copy.field-0 c.args.node.now c.at.result c.in_ok-copy.ensures fits c.at.ensures.path c.at.ensures.stands
