use Rattle.std.proofs.lemmas.Result.{err_from_is_err_and}
use Rattle.serde_json.specs.View.{view}
use Rattle.tsn_cert.specs.Argument.{argument_of}
use Rattle.tsn_codec.specs.Matter.{IsArgumentMisfit}
use Rattle.tsn_codec.proofs.Whys.{none_given}
use Rattle.tsn_codec.proofs.argument.argument_from.Goals as goal

pub returns-in_err-check_format-clause-argument : goal.returns-in_err-check_format-clause-argument
returns-in_err-check_format-clause-argument c =
    let p = err_from_is_err_and c.from_residual.result c.from_residual.ensures.1 in
    let d = view c.args.value.now in
    rw (p.1, p.2) (none_given (IsArgumentMisfit d) _ (argument_of d) c.in_err-check_format.ensures.none c.in_err-check_format.ensures.told)

pub returns-in_err-check_format-clause-told : goal.returns-in_err-check_format-clause-told
returns-in_err-check_format-clause-told c =
    let p = err_from_is_err_and c.from_residual.result c.from_residual.ensures.1 in
    rw (p.1, p.2) c.in_err-check_format.ensures.told
