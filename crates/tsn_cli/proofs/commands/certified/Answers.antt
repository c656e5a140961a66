use Rattle.tsn_outcome.proofs.RunsLemmas.{over_source}
use Rattle.tsn_cli.proofs.CommandLemmas.{shown_told}
use Rattle.tsn_cli.proofs.commands.certified.Goals as goal

pub returns : goal.returns
returns g c =
    over_source _ _ c.network-network.ensures.opened c.network-network.ensures.failures
    (over_source _ _ c.plan-plan.ensures.opened c.plan-plan.ensures.failures
    (over_source _ _ c.cert-cert.ensures.opened c.cert-cert.ensures.failures
    (shown_told c.args.json _ _ c.certified_shown-shown.result _ _
    (λ json. c.certified_shown-shown.ensures.line (c.requires.line json))
    c.certified_shown-shown.ensures.comes c.tell_shown.ensures)))
