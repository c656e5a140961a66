use Rattle.std.proofs.Common.{ℕ, ◌≤◌, ◌↔◌, subst}
use Rattle.tsn_model.specs.Early.{ToleratesOn}
use Rattle.tsn_gate.proofs.slack.slack_by.Goals as goal

pub returns : goal.returns
returns g c =
    subst (λ network. (n : ℕ) → ToleratesOn network g.schedule c.args.link n ↔ (n ≤ c.tolerance.result)) c.plain.ensures c.tolerance.ensures
