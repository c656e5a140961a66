use Rattle.tsn_codec.proofs.CertWritten.{certificate_text_read}
use Rattle.tsn_codec.proofs.laws.certificate_text_is_read.Goals as goal

pub returns : goal.returns
returns c = certificate_text_read
