use Rattle.std.proofs.Common.{sym, ◌∙◌}
use Rattle.tsn_model.proofs.Rest.{rest_from, all_here, all_later, all_past}
use Rattle.tsn_cert.specs.Cert.{entry_fits}
use Rattle.tsn_codec.proofs.cert.limits.entries_fit.Goals as goal

pub returns-then-not-entry_fits : goal.returns-then-not-entry_fits
returns-then-not-entry_fits c =
    all_here entry_fits _ _ _
    (rest_from c.args.entries.now c.loop-entry.entry-index c.entry-item.result c.loop-entry-test.true c.entry-item.is) _
    (sym c.entry_fits.ensures ∙ c.if-not-entry_fits.true) c.loop-entry.invariant

pub loop-entry-preserved : goal.loop-entry-preserved
loop-entry-preserved c =
    all_later entry_fits _ _ _
    (rest_from c.args.entries.now c.loop-entry.entry-index c.entry-item.result c.loop-entry-test.true c.entry-item.is) _
    (sym c.entry_fits.ensures ∙ c.if-not-entry_fits.false) c.loop-entry.invariant

pub returns : goal.returns
returns c = all_past entry_fits c.args.entries.now c.loop-entry.entry-index c.loop-entry-test.false _ c.loop-entry.invariant
