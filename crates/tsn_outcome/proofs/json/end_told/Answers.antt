use Rattle.std.proofs.Common.{ℕ, List, subst}
use Rattle.tsn_outcome.specs.Run.{sink_over}
use Rattle.tsn_outcome.specs.Runs.{Says}
use Rattle.tsn_outcome.proofs.json.end_told.Goals as goal

pub returns : goal.returns
returns g c =
    subst (λ (text : List ℕ). Says c.args.status text (sink_over g.W.Sink.taken g.W.Sink.failed c.args.output c.say-ran.result.output)
    c.say-ran.result.status) c.as_bytes.ensures.value c.say-ran.ensures
