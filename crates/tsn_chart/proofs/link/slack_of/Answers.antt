use Rattle.std.specs.Prelude.{IfOk}
use Rattle.std.proofs.Common.{ℕ, ◌≤◌, ◌↔◌, sym, subst}
use Rattle.tsn_model.specs.Early.{ToleratesOn}
use Rattle.tsn_gate.specs.GateLists.{IsUsed}
use Rattle.tsn_chart.proofs.link.slack_of.Goals as goal

pub slack_on-requires-clause-used : goal.slack_on-requires-clause-used
slack_on-requires-clause-used c = subst (IsUsed c.args.timing.now) (sym c.link.ensures) c.requires.used

pub returns : goal.returns
returns c =
    subst (λ link. IfOk c.slack_on.result (λ slack. (n : ℕ) → ToleratesOn c.args.timing.now c.args.valid.now link n ↔ (n ≤ slack))) c.link.ensures
    c.slack_on.ensures
