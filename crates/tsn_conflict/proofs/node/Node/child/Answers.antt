use Rattle.std.proofs.Common.{[], ◌∷◌, ◌++◌, List, ◌∙◌, ap}
use Rattle.tsn_model.specs.declared.Decision.{Decision}
use Rattle.tsn_model.specs.Certificate.{decided}
use Rattle.tsn_conflict.proofs.node.Node.child.Goals as goal

pub returns : goal.returns
unfolding decided
returns c =
    c.in_ok-path.ensures
    ∙ ap (λ (path : List Decision). path ++ record { triple = c.args.triple; side = c.args.side } ∷ []) (c.deref.ensures.value ∙ c.self.view_is)
