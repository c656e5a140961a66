use Rattle.std.proofs.Common.{arith}
use Rattle.std.proofs.lemmas.Grind.{common_steps}
use Rattle.tsn_replay.proofs.alternation.Alternation.of.Goals as goal

pub loop-link-init : goal.loop-link-init
loop-link-init c = grind (arith, common_steps) steps 2000000

pub windows_on-requires-clause-formed : goal.windows_on-requires-clause-formed
windows_on-requires-clause-formed c = c.requires.formed

pub windows_on-requires-clause-valid : goal.windows_on-requires-clause-valid
windows_on-requires-clause-valid c = c.requires.valid
