use Rattle.std.proofs.Common.{map, ap, ◌∙◌}
use Rattle.std.specs.Prelude.{is_some}
use Rattle.std.specs.Str.{bytes_eq}
use Rattle.toml.specs.Data.{Data}
use Rattle.toml.specs.View.{view}
use Rattle.tsn_net.specs.declared.schema.Key.TheVariants as key
use Rattle.tsn_net.specs.Document.{text_at}
use Rattle.tsn_net.proofs.MatterLemmas.{position_any}
use Rattle.tsn_net.proofs.names.has_name.Goals as goal

pub returns : goal.returns
returns c =
    c.contains_key.ensures ∙ ap is_some (c.args.document.now.nodes_numbered c.args.name.now)
    ∙ position_any (λ (t : Data). bytes_eq c.args.name.now (text_at key.Name t)) (map view c.args.document.now.nodes.now)
