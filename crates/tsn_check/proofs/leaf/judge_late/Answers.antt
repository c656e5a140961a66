use Rattle.std.proofs.Common.{rules}
use Rattle.tsn_model.specs.Certificate.{late_bound}
use Rattle.tsn_check.proofs.leaf.judge_late.Goals as goal

pub returns : goal.returns
unfolding late_bound
returns c = search rules
