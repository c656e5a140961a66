use Rattle.tsn_codec.proofs.Files.{argument_taken}
use Rattle.tsn_codec.proofs.argument.ArgumentFile.take.Goals as goal

pub returns-in-Ok : goal.returns-in-Ok
returns-in-Ok c = argument_taken _ _ _ _ c.in_ok-goal.goal c.in_ok-steps.steps c.in-Ok.target c.in_ok-goal.ensures c.in_ok-steps.ensures c.in-Ok.ensures
