use Rattle.std.proofs.Common.{◌≡◌, length, ap, arith}
use Rattle.std.specs.Prelude.{option_and_then}
use Rattle.serde_json.specs.View.{view}
use Rattle.tsn_cert.specs.Json.{each, whole_number}
use Rattle.tsn_cert.specs.Form.{number}
use Rattle.tsn_cert.specs.Fault.{named}
use Rattle.tsn_cert.specs.declared.fault.FileFault.TheVariants.{WrongShape}
use Rattle.tsn_codec.proofs.Lists.{list_other, first_other}
use Rattle.tsn_codec.proofs.plan.offsets_from.Goals as goal

pub returns-in-Err-NoArray-clause-offsets : goal.returns-in-Err-NoArray-clause-offsets
returns-in-Err-NoArray-clause-offsets c =
    let read = rw c.in-Err-NoArray.field-0-is at c.in-Err-NoArray.ensures in
    ap (λ o. named WrongShape (option_and_then (each whole_number) o)) (read c.requires)

pub returns-in-Err-NoArray-clause-told : goal.returns-in-Err-NoArray-clause-told
returns-in-Err-NoArray-clause-told c =
    let read = rw c.in-Err-NoArray.field-0-is at c.in-Err-NoArray.ensures in
    read c.requires

pub returns-in-Err-Behind-clause-offsets : goal.returns-in-Err-Behind-clause-offsets
returns-in-Err-Behind-clause-offsets c =
    let read = rw c.in-Err-Behind.field-0-is at c.in-Err-Behind.ensures in
    ap (named WrongShape) (list_other (λ n. n) number c.in-Err-Behind.offsets (view c.args.value.now) (read c.requires))

pub returns-in-Err-Behind-clause-told : goal.returns-in-Err-Behind-clause-told
returns-in-Err-Behind-clause-told c =
    let read = rw c.in-Err-Behind.field-0-is at c.in-Err-Behind.ensures in
    let counted : c.len.result ≡ length c.in-Err-Behind.offsets.items = omega (arith, c.in-Err-Behind.offsets.ok.0) in
    first_other (λ n. n) number c.in-Err-Behind.offsets c.len.result (view c.args.value.now) counted (read c.requires)
