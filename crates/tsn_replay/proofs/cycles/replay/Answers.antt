use Rattle.std.proofs.Common.{subst, arith}
use Rattle.std.proofs.lemmas.Result.{IfOk-weaker}
use Rattle.tsn_model.specs.Bridge.{IsFed}
use Rattle.tsn_replay.specs.Feeding.{background_of}
use Rattle.tsn_replay.proofs.Records.{all_kept}
use Rattle.tsn_replay.proofs.cycles.replay.Goals as goal

pub returns-clause-fed : goal.returns-clause-fed
returns-clause-fed c = IfOk-weaker c.replayed.result _ _ (λ trace is.
    subst (IsFed c.args.problem.now.network c.args.lists.now c.args.cycles (background_of c.args.background.now)) (all_kept is.made trace.run is.records) is.fed) c.replayed.ensures.replayed

pub replayed-requires-clause-short : goal.replayed-requires-clause-short
replayed-requires-clause-short c = omega arith
