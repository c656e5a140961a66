use Rattle.std.proofs.Common.{subst}
use Rattle.tsn_model.specs.Certificate.{tie_node, late}
use Rattle.tsn_cert.specs.Cert.{chains_form}
use Rattle.tsn_cert.specs.Node.{tree_node}
use Rattle.tsn_codec.specs.Takes.{Takes}
use Rattle.tsn_codec.proofs.Rows.{part_twice}
use Rattle.tsn_codec.proofs.cert.read.tie.Goals as goal

pub returns : goal.returns
returns c =
    let is = part_twice (λ t. tie_node (late t.0 t.1) t.2) (λ chains. (c.in_ok-stream.stream, c.in_ok-chain.chain, chains))
    (chains_form.taken c.chain.new.self) in
    rw (c.in_ok-stream.ensures, c.in_ok-chain.ensures)
    (subst (λ o. Takes tree_node c.tie_behind.result o c.tie_behind.new.tokens) is c.tie_behind.ensures)
