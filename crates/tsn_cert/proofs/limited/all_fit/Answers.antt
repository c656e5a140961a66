use Rattle.tsn_cert.proofs.Lists.{fits_more, fits_all, back_more, back_all}
use Rattle.tsn_cert.proofs.limited.all_fit.Goals as goal

pub loop-part-preserved : goal.loop-part-preserved
loop-part-preserved g c = record {
  fit = fits_more g.T.Limited.within _ c.loop-part.part-index c.part-item.result c.loop-part.all c.both-all.result c.fits.result
      c.loop-part-test.true c.part-item.is c.loop-part.invariant.fit c.fits.ensures.fits c.both-all.ensures;
  read = back_more g.T.Limited.form.said g.T.Limited.printed _ c.loop-part.part-index c.part-item.result c.loop-part-test.true c.part-item.is
      c.fits.ensures.grammar c.loop-part.invariant.read;
}

pub returns-clause-fits : goal.returns-clause-fits
returns-clause-fits g c = fits_all g.T.Limited.within _ c.loop-part.part-index c.loop-part.all c.loop-part-test.false c.loop-part.invariant.fit

pub returns-clause-grammar : goal.returns-clause-grammar
returns-clause-grammar g c =
    back_all g.T.Limited.form.said g.T.Limited.printed _ c.loop-part.part-index c.loop-part-test.false c.loop-part.invariant.read
