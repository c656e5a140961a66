use Rattle.tsn_diff.proofs.ChainedSteps.{chain_some}
use Rattle.tsn_diff.proofs.forest.Walk.back.Goals as goal

pub returns : goal.returns
returns c = rw (← c.self.view_is) (chain_some c.self.invariant.0 c.self.inside.at c.in_ok-step.step c.self.invariant.1 c.in_ok-step.was)
