use Rattle.tsn_model.specs.Certificate.{SumsAre}
use Rattle.tsn_check.specs.Turns.{decisions}
use Rattle.tsn_check.proofs.tie.comes_after.Given as goal

abbrev pub invariant-loop-stream : goal.invariant-loop-stream
invariant-loop-stream l = SumsAre l.timing (decisions l.path) l.chains l.offsets l.stream
