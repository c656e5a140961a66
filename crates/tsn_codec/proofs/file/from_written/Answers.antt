use Rattle.std.proofs.Common.{◌≡◌, Some, IfOk, sym, ap, ◌∙◌, subst}
use Rattle.std.specs.Prelude.{option_and_then}
use Rattle.std.proofs.lemmas.Str.{is_utf8-from_IsUtf8}
use Rattle.serde_json.specs.Read.{read}
use Rattle.tsn_cert.specs.Json.{when, value_of}
use Rattle.tsn_codec.proofs.file.from_written.Goals as goal

pub returns : goal.returns
returns g c =
    let bytes = c.args.bytes.now in
    let utf8 = c.in-Ok.ensures.cases in
    let same : read c.in-Ok.text.now ≡ value_of bytes = ap read utf8.0 ∙ sym (ap (λ b. when b (read bytes)) (is_utf8-from_IsUtf8 bytes utf8.1)) in
    subst (λ o. IfOk c.whole.result (λ file. option_and_then g.F.File.grammar o ≡ Some (g.F.File.seen file))) same c.whole.ensures
