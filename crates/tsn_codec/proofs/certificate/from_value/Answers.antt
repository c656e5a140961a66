use Rattle.serde_json.specs.View.{view}
use Rattle.tsn_cert.specs.Cert.{cert_of}
use Rattle.tsn_codec.proofs.ToldLemmas.{tree_answered, tree_limited, read_said}
use Rattle.tsn_codec.proofs.certificate.from_value.Goals as goal

pub returns-in-Ok-clause-certificate : goal.returns-in-Ok-clause-certificate
returns-in-Ok-clause-certificate c = λ bytes is.
    tree_answered bytes c.in-Ok.cert c.tree_within.result (read_said cert_of bytes (view c.args.value.now) c.in-Ok.cert is c.in-Ok.ensures.file)
    c.tree_within.ensures.limits

pub returns-in-Ok-clause-told : goal.returns-in-Ok-clause-told
returns-in-Ok-clause-told c = λ bytes is.
    tree_limited bytes c.in-Ok.cert c.tree_within.result (read_said cert_of bytes (view c.args.value.now) c.in-Ok.cert is c.in-Ok.ensures.file)
    c.tree_within.ensures.told
