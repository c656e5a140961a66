use Rattle.tsn_codec.proofs.ToldLemmas.{tree_answered, tree_limited, argument_answered, argument_limited}
use Rattle.tsn_codec.proofs.certificate.certificate_or_refuse.Goals as goal

pub returns-in-Ok-clause-certificate : goal.returns-in-Ok-clause-certificate
returns-in-Ok-clause-certificate c =
    argument_answered c.args.bytes.now c.in-Ok.argument c.argument_within.result c.in-Ok.ensures c.argument_within.ensures.limits

pub returns-in-Ok-clause-told : goal.returns-in-Ok-clause-told
returns-in-Ok-clause-told c =
    argument_limited c.args.bytes.now c.in-Ok.argument c.argument_within.result c.in-Ok.ensures c.argument_within.ensures.told

pub returns-in-Ok-from_written-clause-certificate : goal.returns-in-Ok-from_written-clause-certificate
returns-in-Ok-from_written-clause-certificate c =
    tree_answered c.args.bytes.now c.in-Ok-from_written.cert c.tree_within.result c.in-Ok-from_written.ensures c.tree_within.ensures.limits

pub returns-in-Ok-from_written-clause-told : goal.returns-in-Ok-from_written-clause-told
returns-in-Ok-from_written-clause-told c =
    tree_limited c.args.bytes.now c.in-Ok-from_written.cert c.tree_within.result c.in-Ok-from_written.ensures c.tree_within.ensures.told
