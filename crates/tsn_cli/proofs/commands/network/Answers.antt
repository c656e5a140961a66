use Rattle.tsn_outcome.proofs.RunsLemmas.{over_source}
use Rattle.tsn_cli.proofs.CommandLemmas.{shown_told}
use Rattle.tsn_cli.proofs.commands.network.Goals as goal

pub returns : goal.returns
returns g c =
    over_source _ _ c.network-source.ensures.opened c.network-source.ensures.failures
    (shown_told c.args.json _ _ c.network_shown-shown.result _ _ (λ json. c.network_shown-shown.ensures.line (c.requires.line json))
    c.network_shown-shown.ensures.comes c.tell_shown.ensures)
