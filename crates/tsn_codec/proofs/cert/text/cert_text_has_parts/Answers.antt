use Rattle.tsn_codec.proofs.CertParts.{cert_text_parts}
use Rattle.tsn_codec.proofs.cert.text.cert_text_has_parts.Goals as goal

pub returns : goal.returns
returns c = cert_text_parts
