use Rattle.std.proofs.Common.{arith}
use Rattle.std.proofs.lemmas.Grind.{common_steps}
use Rattle.tsn_net.proofs.steps.meeting.Goals as goal

pub slice_bounds-other_way-end : goal.slice_bounds-other_way-end
slice_bounds-other_way-end c = grind (arith, common_steps) steps 2000000

pub loop-k-preserved : goal.loop-k-preserved
loop-k-preserved c = grind (arith, common_steps) steps 2000000

pub returns : goal.returns
returns c = grind (arith, common_steps) steps 2000000
