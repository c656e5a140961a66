use Rattle.std.proofs.Common.{ap, ◌∙◌}
use Rattle.json.specs.Json.{parse_map}
use Rattle.tsn_model.specs.Certificate.{tie_node}
use Rattle.tsn_cert.specs.Cert.{chains_form}
use Rattle.tsn_cert.specs.Leaf.{bound_leaf}
use Rattle.tsn_codec.proofs.Elements.{fault_up}
use Rattle.tsn_codec.proofs.Rows.{part_with}
use Rattle.tsn_codec.proofs.cert.read.tie_behind.Goals as goal

pub returns-in-Ok : goal.returns-in-Ok
returns-in-Ok c =
    part_with (tie_node (bound_leaf c.args.bound)) (chains_form.taken c.args.tokens.now)
    ∙ ap (parse_map (tie_node (bound_leaf c.args.bound))) c.in-Ok.ensures

pub returns-in-Err : goal.returns-in-Err
returns-in-Err c =
    fault_up c.in-Err.error _ _ (
    λ none. part_with (tie_node (bound_leaf c.args.bound)) (chains_form.taken c.args.tokens.now)
    ∙ ap (parse_map (tie_node (bound_leaf c.args.bound))) none
    ) c.in-Err.ensures
