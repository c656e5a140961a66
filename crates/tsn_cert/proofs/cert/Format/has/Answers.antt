use Rattle.std.proofs.Common.{sym, ap, map, ◌∙◌}
use Rattle.std.specs.Prelude.{not}
use Rattle.std.proofs.lemmas.List.Folds.{list_all-map}
use Rattle.tsn_cert.specs.Node.{tree_node}
use Rattle.tsn_cert.specs.Cert.{is_tie, are_of}
use Rattle.tsn_cert.proofs.cert.Format.has.Goals as goal

pub returns-in-One : goal.returns-in-One
returns-in-One c =
    c.have_no_ties.ensures ∙ sym (list_all-map (λ node. not (is_tie node)) tree_node c.args.nodes.now)
    ∙ sym (ap (λ format. are_of format (map tree_node c.args.nodes.now)) c.in-One.is)
