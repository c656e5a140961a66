use Rattle.tsn_laws.proofs.Runs.{run_keeps}
use Rattle.tsn_laws.proofs.search.runs_keep_limit.Goals as goal

pub returns : goal.returns
returns c = λ network limit state steps last short run. run_keeps network limit steps state last short run
