use Rattle.std.proofs.Common.{map, ap, ◌∙◌}
use Rattle.std.specs.Prelude.{is_some}
use Rattle.toml.specs.View.{view}
use Rattle.tsn_net.specs.Conditions.{joins}
use Rattle.tsn_net.proofs.MatterLemmas.{position_any}
use Rattle.tsn_net.proofs.routes.are_joined.Goals as goal

pub returns : goal.returns
returns c =
    c.contains_key.ensures ∙ ap is_some (c.args.document.now.cables_numbered c.args.x.now c.args.y.now)
    ∙ position_any (joins c.args.x.now c.args.y.now) (map view c.args.document.now.cables.now)
