use Rattle.serde_json.specs.View.{view}
use Rattle.tsn_cert.specs.Argument.{argument_of}
use Rattle.tsn_cert.specs.Certificate.{certificate_of}
use Rattle.tsn_cert.specs.Json.{value_of}
use Rattle.tsn_codec.specs.Matter.{IsMisfit, IsExcess}
use Rattle.tsn_codec.proofs.Either.{other_fault}
use Rattle.tsn_codec.proofs.ToldLemmas.{argument_answered, argument_limited, misfit_told, read_said}
use Rattle.tsn_codec.proofs.certificate.from_other_value.Goals as goal

pub returns-in-Ok-clause-certificate : goal.returns-in-Ok-clause-certificate
returns-in-Ok-clause-certificate c = λ bytes is.
    argument_answered bytes c.in-Ok.argument c.argument_within.result
    (read_said argument_of bytes (view c.args.value.now) c.in-Ok.argument is c.in-Ok.ensures.argument) c.argument_within.ensures.limits

pub returns-in-Ok-clause-told : goal.returns-in-Ok-clause-told
returns-in-Ok-clause-told c = λ bytes is.
    argument_limited bytes c.in-Ok.argument c.argument_within.result
    (read_said argument_of bytes (view c.args.value.now) c.in-Ok.argument is c.in-Ok.ensures.argument) c.argument_within.ensures.told

pub returns-in-Err-clause-certificate : goal.returns-in-Err-clause-certificate
returns-in-Err-clause-certificate c = λ bytes is. other_fault (value_of bytes) _ _ is c.requires.none c.in-Err.ensures.argument

pub returns-in-Err-clause-told : goal.returns-in-Err-clause-told
returns-in-Err-clause-told c = λ bytes is.
    misfit_told certificate_of IsMisfit IsExcess bytes (view c.args.value.now) c.in-Err.refused is (c.in-Err.ensures.told c.requires.told)
