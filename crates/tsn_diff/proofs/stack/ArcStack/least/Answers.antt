use Rattle.std.proofs.Common.{subst, ap}
use Rattle.tsn_diff.specs.declared.stack.ArcStack.TheInside.{Inside}
use Rattle.tsn_diff.specs.Offsets.{LeastOffsets}
use Rattle.tsn_diff.specs.Answers.{Solves}
use Rattle.tsn_diff.proofs.Solutions.{Solves-settled}
use Rattle.tsn_diff.proofs.stack.ArcStack.least.Goals as goal

pub returns-clause-solves : goal.returns-clause-solves
returns-clause-solves c =
    rw (← c.self.view_is) (subst (λ (found : LeastOffsets). Solves found.releases found.arcs found) (ap (λ (inside : Inside). inside.least) c.self-inside.view_is) (Solves-settled _ _ _ c.self-inside.invariant))
