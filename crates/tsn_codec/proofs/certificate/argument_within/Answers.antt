use Rattle.tsn_codec.proofs.ToldLemmas.{argument_within, argument_large}
use Rattle.tsn_codec.proofs.certificate.argument_within.Goals as goal

pub returns-in-Ok-clause-limits : goal.returns-in-Ok-clause-limits
returns-in-Ok-clause-limits c = argument_within c.args.argument c.in-Ok.argument c.in-Ok.ensures.limits

pub returns-in-Err-clause-limits : goal.returns-in-Err-clause-limits
returns-in-Err-clause-limits c = argument_large c.args.argument c.in-Err.refused c.in-Err.ensures.limits
