use Rattle.tsn_model.proofs.Trees.{Spells-once}
use Rattle.tsn_laws.proofs.definitions.nodes_spell_one_tree.Goals as goal

pub returns : goal.returns
returns c = Spells-once
