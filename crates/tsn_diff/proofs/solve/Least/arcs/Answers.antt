use Rattle.tsn_diff.proofs.Solutions.{Solves-settled}
use Rattle.tsn_diff.proofs.solve.Least.arcs.Goals as goal

pub returns-clause-solves : goal.returns-clause-solves
returns-clause-solves c = rw (← c.self.view_is) (Solves-settled _ _ _ c.self.invariant)
