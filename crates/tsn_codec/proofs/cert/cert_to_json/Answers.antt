use Rattle.std.proofs.Common.{◌≡◌, ap, ◌∙◌, Some, arith}
use Rattle.std.proofs.lemmas.Grind.{common_steps}
use Rattle.serde_json.specs.View.{view}
use Rattle.serde_json.specs.Written.{has_float}
use Rattle.tsn_cert.specs.Json.{file_text}
use Rattle.tsn_cert.specs.Cert.{cert_value}
use Rattle.tsn_codec.proofs.CertLemmas.{cert_in-printed}
use Rattle.tsn_codec.proofs.CertWritten.{cert_written}
use Rattle.tsn_codec.proofs.cert.cert_to_json.Goals as goal

pub returns-clause-text : goal.returns-clause-text
returns-clause-text c =
    let is : view c.in_ok-value.value ≡ cert_value c.args.cert.now = grind (arith, common_steps) in
    c.in_ok-file_text.ensures.text (ap has_float is ∙ (cert_written c.args.cert.now).no_float) ∙ ap file_text is

pub returns-clause-reads_back : goal.returns-clause-reads_back
returns-clause-reads_back c of fits =
    let is : view c.in_ok-value.value ≡ cert_value c.args.cert.now = grind (arith, common_steps) in
    let read = c.in_ok-file_text.ensures.reads_back (rw is (cert_written c.args.cert.now).shallow) ∙ ap Some is in
    cert_in-printed _ c.args.cert.now read (rw c.list.ensures at c.in_ok-nodes.ensures.reads_back) of fits
