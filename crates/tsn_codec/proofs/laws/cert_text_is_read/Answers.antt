use Rattle.tsn_codec.proofs.CertWritten.{cert_text_read}
use Rattle.tsn_codec.proofs.laws.cert_text_is_read.Goals as goal

pub returns : goal.returns
returns c = cert_text_read
