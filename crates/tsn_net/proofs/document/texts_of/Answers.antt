use Rattle.std.proofs.Common.{map, sym, ap, ◌∙◌}
use Rattle.toml.specs.View.{view}
use Rattle.tsn_net.specs.Document.{text_of}
use Rattle.tsn_net.proofs.DocumentLemmas.{map-map}
use Rattle.tsn_net.proofs.document.texts_of.Goals as goal

pub returns : goal.returns
returns c = sym (map-map text_of view c.elements.result.now) ∙ ap (map text_of) c.elements.ensures
