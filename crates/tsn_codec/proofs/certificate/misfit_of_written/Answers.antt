use Rattle.std.proofs.Common.{◌≡◌, ap, sym, ◌∙◌}
use Rattle.std.proofs.lemmas.Str.{is_utf8-from_IsUtf8}
use Rattle.serde_json.specs.Read.{read}
use Rattle.tsn_cert.specs.Json.{when, value_of}
use Rattle.tsn_codec.proofs.Pairs.{told_too}
use Rattle.tsn_codec.proofs.Written.{no_certificate}
use Rattle.tsn_codec.proofs.certificate.misfit_of_written.Goals as goal

pub returns-then-starts_with : goal.returns-then-starts_with
returns-then-starts_with c =
    let bytes = c.args.bytes.now in
    let utf8 = c.in-Ok.ensures.cases in
    let same : read c.in-Ok.text.now ≡ value_of bytes = ap read utf8.0 ∙ sym (ap (λ b. when b (read bytes)) (is_utf8-from_IsUtf8 bytes utf8.1)) in
    told_too _ c.misfit_of_written.ensures (λ m none. no_certificate c.in-Ok.text.now bytes m same none)

pub returns-else-starts_with : goal.returns-else-starts_with
returns-else-starts_with c =
    let bytes = c.args.bytes.now in
    let utf8 = c.in-Ok.ensures.cases in
    let same : read c.in-Ok.text.now ≡ value_of bytes = ap read utf8.0 ∙ sym (ap (λ b. when b (read bytes)) (is_utf8-from_IsUtf8 bytes utf8.1)) in
    told_too _ c.misfit_of_written-else-starts_with.ensures (λ m none. no_certificate c.in-Ok.text.now bytes m same none)
