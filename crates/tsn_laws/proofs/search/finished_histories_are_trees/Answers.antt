use Rattle.std.proofs.Common.{sym}
use Rattle.tsn_model.proofs.Finished.{ordered_tree}
use Rattle.tsn_laws.proofs.search.finished_histories_are_trees.Goals as goal

pub returns : goal.returns
returns c = λ network history legal none_open ordered same apart.
    let of = ordered_tree network history legal none_open ordered same apart in
    (of.tree, of.accepts, sym of.nodes)
