use Rattle.std.proofs.Common.{sym}
use Rattle.tsn_model.proofs.BestBounds.{word_is_below}
use Rattle.tsn_model.proofs.Finished.{finished_tree, quiet_word}
use Rattle.tsn_laws.proofs.search.quiet_states_are_trees.Goals as goal

pub returns : goal.returns
returns c = λ network state sound quiet.
    let below = word_is_below network state sound quiet in
    let found = finished_tree network state.history sound.legal quiet.none_open in
    let of = found.3 in
    (quiet_word network state sound quiet, (below.solved, below.pruned), (found.0, found.1, found.2, (of.tree, of.accepts, sym of.nodes)))
