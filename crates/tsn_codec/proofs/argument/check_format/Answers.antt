use Rattle.std.proofs.Common.{◌≡◌, ◌≢◌, false, arith}
use Rattle.std.specs.Prelude.{◌==◌}
use Rattle.std.proofs.lemmas.Bool.Decides.{nat_tests}
use Rattle.std.proofs.lemmas.Result.{err_from_is_err_and}
use Rattle.serde_json.specs.View.{view}
use Rattle.tsn_cert.specs.Argument.{argument_format}
use Rattle.tsn_cert.specs.Json.{whole_number}
use Rattle.tsn_cert.specs.declared.fault.FileFault.TheVariants.{WrongShape}
use Rattle.tsn_codec.proofs.JsonLemmas.{named_ok}
use Rattle.tsn_codec.proofs.Whys.{none_read, argument_no_format, argument_format_told, argument_no_number, argument_number_told, argument_other_format, argument_other_told, of_argument_at}
use Rattle.tsn_codec.proofs.argument.check_format.Goals as goal

pub returns-in_err-format-clause-none : goal.returns-in_err-format-clause-none
returns-in_err-format-clause-none c =
    let p = err_from_is_err_and c.from_residual.result c.from_residual.ensures.1 in
    rw p.1 (argument_no_format (view c.args.value.now) c.in_err-format.ensures.0)

pub returns-in_err-format-clause-told : goal.returns-in_err-format-clause-told
returns-in_err-format-clause-told c =
    let p = err_from_is_err_and c.from_residual.result c.from_residual.ensures.1 in
    rw (p.1, p.2, c.in_err-format.ensures.1) (argument_format_told (view c.args.value.now) c.requires c.in_err-format.ensures.0)

pub returns-in_err-whole_number_at-clause-none : goal.returns-in_err-whole_number_at-clause-none
returns-in_err-whole_number_at-clause-none c =
    let p = err_from_is_err_and c.from_residual-in_err-whole_number_at.result c.from_residual-in_err-whole_number_at.ensures.1 in
    let none = none_read _ _ _ c.in_err-whole_number_at.ensures.told c.in_err-whole_number_at.ensures.number in
    rw p.1 (argument_no_number (view c.args.value.now) (view c.in_ok-format.format.now) c.in_ok-format.ensures none)

pub returns-in_err-whole_number_at-clause-told : goal.returns-in_err-whole_number_at-clause-told
returns-in_err-whole_number_at-clause-told c =
    let p = err_from_is_err_and c.from_residual-in_err-whole_number_at.result c.from_residual-in_err-whole_number_at.ensures.1 in
    let none = none_read _ _ _ c.in_err-whole_number_at.ensures.told c.in_err-whole_number_at.ensures.number in
    rw (p.1, p.2, c.in_err-whole_number_at.ensures.told)
    (argument_number_told (view c.args.value.now) (view c.in_ok-format.format.now) c.in_ok-format.ensures none)

pub returns-then-branch-eq-ARGUMENT_FORMAT-clause-format : goal.returns-then-branch-eq-ARGUMENT_FORMAT-clause-format
returns-then-branch-eq-ARGUMENT_FORMAT-clause-format c =
    let read = named_ok WrongShape (whole_number (view c.in_ok-format.format.now)) _ c.in_ok-whole_number_at.ensures.number in
    of_argument_at (view c.args.value.now) (view c.in_ok-format.format.now) c.in_ok-whole_number_at.field-0 c.in_ok-format.ensures read (grind arith)

pub returns-else-branch-eq-ARGUMENT_FORMAT-clause-none : goal.returns-else-branch-eq-ARGUMENT_FORMAT-clause-none
returns-else-branch-eq-ARGUMENT_FORMAT-clause-none c =
    let read = named_ok WrongShape (whole_number (view c.in_ok-format.format.now)) _ c.in_ok-whole_number_at.ensures.number in
    let other : (c.in_ok-whole_number_at.field-0 == argument_format) ≡ false = grind (arith, nat_tests) in
    argument_other_format (view c.args.value.now) (view c.in_ok-format.format.now) c.in_ok-whole_number_at.field-0 c.in_ok-format.ensures read other

pub returns-else-branch-eq-ARGUMENT_FORMAT-clause-told : goal.returns-else-branch-eq-ARGUMENT_FORMAT-clause-told
returns-else-branch-eq-ARGUMENT_FORMAT-clause-told c =
    let read = named_ok WrongShape (whole_number (view c.in_ok-format.format.now)) _ c.in_ok-whole_number_at.ensures.number in
    let other : c.in_ok-whole_number_at.field-0 ≢ argument_format = grind arith in
    argument_other_told (view c.args.value.now) (view c.in_ok-format.format.now) c.in_ok-whole_number_at.field-0 c.in_ok-format.ensures read other
