use Rattle.std.proofs.Common.{ℕ, ◌<◌}
use Rattle.tsn_model.specs.Certificate.{LeadsTo, chain_at}
use Rattle.tsn_check.specs.Turns.{decisions}
use Rattle.tsn_check.proofs.tie.all_lead.Given as goal

abbrev pub invariant-loop-stream : goal.invariant-loop-stream
invariant-loop-stream l = (i : ℕ) → i < l.stream → LeadsTo l.timing (decisions l.path) (chain_at l.chains i) i
