use Rattle.std.proofs.Common.{not, sym, ap, ◌∙◌}
use Rattle.tsn_model.proofs.Rest.{rest_from, place_begun, place_here, place_later, place_past}
use Rattle.tsn_codec.proofs.argument.limits.first_large.Goals as goal

pub loop-number-init : goal.loop-number-init
loop-number-init g c = place_begun (λ it. not (g.T.Limited.within it)) c.args.parts.now

pub returns-then-not-fits : goal.returns-then-not-fits
returns-then-not-fits g c =
    place_here (λ it. not (g.T.Limited.within it)) _ _ _
    (rest_from c.args.parts.now c.loop-number.number c.index-parts-number.result c.loop-number-test.true c.index-parts-number.is) c.loop-number.number _
    (ap not (sym c.fits.ensures.fits ∙ c.if-not-fits.true)) c.loop-number.invariant

pub loop-number-preserved : goal.loop-number-preserved
loop-number-preserved g c =
    place_later (λ it. not (g.T.Limited.within it)) _ _ _
    (rest_from c.args.parts.now c.loop-number.number c.index-parts-number.result c.loop-number-test.true c.index-parts-number.is) c.loop-number.number _
    (ap not (sym c.fits.ensures.fits ∙ c.if-not-fits.false)) c.loop-number.invariant

pub returns : goal.returns
returns g c = place_past (λ it. not (g.T.Limited.within it)) c.args.parts.now c.loop-number.number c.loop-number-test.false _ c.loop-number.invariant
