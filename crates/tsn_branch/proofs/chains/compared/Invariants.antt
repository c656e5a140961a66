use Rattle.std.proofs.Common.{◌≡◌, ◌<◌, ℕ}
use Rattle.tsn_model.specs.Schedule.{offset_of}
use Rattle.tsn_branch.proofs.chains.compared.Given as goal

abbrev pub invariant-loop-stream : goal.invariant-loop-stream
invariant-loop-stream l = (i : ℕ) → i < l.stream → offset_of l.offsets i ≡ offset_of l.best i
