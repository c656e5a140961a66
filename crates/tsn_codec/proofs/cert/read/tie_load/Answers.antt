use Rattle.std.proofs.Common.{subst}
use Rattle.tsn_model.specs.Certificate.{tie_node, load}
use Rattle.tsn_cert.specs.Cert.{chains_form}
use Rattle.tsn_cert.specs.Node.{tree_node}
use Rattle.tsn_codec.specs.Takes.{Takes}
use Rattle.tsn_codec.proofs.Rows.{part_twice}
use Rattle.tsn_codec.proofs.cert.read.tie_load.Goals as goal

pub returns : goal.returns
returns c =
    let is = part_twice (λ t. tie_node (load t.0 t.1) t.2) (λ chains. (c.in_ok-link.link, c.in_ok-entries.entries, chains))
    (chains_form.taken c.entries.new.tokens) in
    rw (c.in_ok-link.ensures, c.in_ok-entries.ensures)
    (subst (λ o. Takes tree_node c.tie_behind.result o c.tie_behind.new.tokens) is c.tie_behind.ensures)
