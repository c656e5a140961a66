use Rattle.std.proofs.Common.{string_bytes}
use Rattle.tsn_outcome.specs.Runs.{IsObjectOf}
use Rattle.tsn_outcome.proofs.RunsLemmas.{ok_along}
use Rattle.tsn_outcome.proofs.json.object_of.Goals as goal

pub returns : goal.returns
returns c = ok_along c.format_told.result _ (λ text. IsObjectOf c.args.outcome (string_bytes text)) c.format_told.ensures (λ text is. (_, is))
