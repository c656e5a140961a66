use Rattle.std.proofs.Common.{arith}
use Rattle.std.proofs.lemmas.Grind.{common_steps}
use Rattle.tsn_device.proofs.sink.write_wanted.Goals as goal

pub returns-in_ok-file-in-None-clause-path : goal.returns-in_ok-file-in-None-clause-path
returns-in_ok-file-in-None-clause-path c = grind (arith, common_steps) steps 2000000
