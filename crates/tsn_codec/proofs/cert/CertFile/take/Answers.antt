use Rattle.tsn_codec.proofs.Files.{tree_taken}
use Rattle.tsn_codec.proofs.cert.CertFile.take.Goals as goal

pub returns-in-Ok : goal.returns-in-Ok
returns-in-Ok c = tree_taken c.of_format.result _ _ _ _ c.in_ok-format.format c.in_ok-nodes.nodes c.in-Ok.target c.in_ok-format.ensures c.in_ok-nodes.ensures
    c.in-Ok.ensures c.of_format.ensures
