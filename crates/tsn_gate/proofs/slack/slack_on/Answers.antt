use Rattle.std.proofs.Common.{ℕ, ◌≤◌, ◌↔◌, subst}
use Rattle.tsn_model.specs.Early.{ToleratesOn}
use Rattle.tsn_gate.proofs.slack.slack_on.Goals as goal

pub returns : goal.returns
returns c =
    subst (λ offsets. (n : ℕ) → ToleratesOn c.args.timing.now offsets c.args.link n ↔ (n ≤ c.in_ok-slack_by.field-0)) c.offsets.ensures
    c.in_ok-slack_by.ensures
