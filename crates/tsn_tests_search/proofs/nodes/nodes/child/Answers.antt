use Rattle.std.proofs.Common.{◌-◌, ◌∙◌, ap, List, length, take}
use Rattle.tsn_model.specs.declared.Decision.{Decision}
use Rattle.tsn_model.proofs.Decisions.{take-decided}
use Rattle.tsn_tests_search.proofs.nodes.nodes.child.Goals as goal

pub returns : goal.returns
returns g c =
    ap (λ (path : List Decision). take (length path - 1) path) c.in-Ok.ensures ∙ take-decided c.args.node.now c.args.triple c.args.side
