use Rattle.std.proofs.Common.{◌∙◌, sym}
use Rattle.tsn_cert.proofs.ArgumentLemmas.{argument_read_again}
use Rattle.tsn_cert.proofs.argument.Argument.is_within_limits.Goals as goal

pub returns-clause-reads_back : goal.returns-clause-reads_back
returns-clause-reads_back c holds =
    argument_read_again c.args.self.now c.fits.ensures.grammar (sym c.fits.ensures.fits ∙ holds)
