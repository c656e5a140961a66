use Rattle.std.proofs.lemmas.Str.{IsUtf8-string_bytes}
use Rattle.tsn_cert.proofs.JsonLemmas.{value_of-line_feed}
use Rattle.tsn_codec.proofs.document.file_text.Goals as goal

pub returns-clause-reads_back : goal.returns-clause-reads_back
returns-clause-reads_back c shallow =
    let utf8 = IsUtf8-string_bytes c.push_str.new.self in
    rw c.in_ok-push_str.ensures.bytes (value_of-line_feed _ _ (rw c.in_ok-push_str.ensures.bytes at utf8) (c.in_ok-text.ensures.reads_back shallow))
