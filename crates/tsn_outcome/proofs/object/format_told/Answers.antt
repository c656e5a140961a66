use Rattle.std.proofs.Common.{◌∙◌, ap}
use Rattle.serde_json.specs.Written.{has_float}
use Rattle.tsn_outcome.specs.Told.{line_text}
use Rattle.tsn_outcome.proofs.Objects.{no_float}
use Rattle.tsn_outcome.proofs.object.format_told.Goals as goal

pub returns : goal.returns
returns c = c.in_ok-line.ensures (ap has_float c.in_ok-value.ensures ∙ no_float c.args.outcome _) ∙ ap line_text c.in_ok-value.ensures
