use Rattle.std.proofs.Common.{false, sym, true≢false}
use Rattle.tsn_outcome.proofs.RunsLemmas.{over_source}
use Rattle.tsn_cli.proofs.CommandLemmas.{shown_told}
use Rattle.tsn_cli.proofs.commands.table.Goals as goal

pub returns : goal.returns
returns g c =
    over_source _ _ c.network-network.ensures.opened c.network-network.ensures.failures
    (over_source _ _ c.plan-plan.ensures.opened c.plan-plan.ensures.failures
    (shown_told false _ _ c.table_shown-shown.result _ _ (λ json. absurd (true≢false (sym json))) c.table_shown-shown.ensures c.tell_shown.ensures))
