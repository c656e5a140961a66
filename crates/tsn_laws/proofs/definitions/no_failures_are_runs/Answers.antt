use Rattle.tsn_model.proofs.OnTime.{without_none}
use Rattle.tsn_laws.proofs.Ways.{run_of}
use Rattle.tsn_laws.proofs.definitions.no_failures_are_runs.Goals as goal

pub returns : goal.returns
returns c = λ network offsets gates cycles run. (run_of network offsets gates cycles run, without_none network offsets gates cycles run)
