use Rattle.std.proofs.lemmas.Result.{err_from_is_err_and}
use Rattle.serde_json.specs.View.{view}
use Rattle.tsn_cert.specs.Cert.{cert_of}
use Rattle.tsn_codec.specs.Matter.{IsTreeMisfit}
use Rattle.tsn_codec.proofs.Whys.{none_given}
use Rattle.tsn_codec.proofs.cert.cert_from.Goals as goal

pub returns-in_err-format-clause-cert : goal.returns-in_err-format-clause-cert
returns-in_err-format-clause-cert c =
    let p = err_from_is_err_and c.from_residual.result c.from_residual.ensures.1 in
    let d = view c.args.value.now in
    rw (p.1, p.2) (none_given (IsTreeMisfit d) _ (cert_of d) c.in_err-format.ensures.none c.in_err-format.ensures.told)

pub returns-in_err-format-clause-told : goal.returns-in_err-format-clause-told
returns-in_err-format-clause-told c =
    let p = err_from_is_err_and c.from_residual.result c.from_residual.ensures.1 in
    rw (p.1, p.2) c.in_err-format.ensures.told
