use Rattle.tsn_model.proofs.Ties.{shown_chains, shown_after}
use Rattle.tsn_laws.proofs.definitions.offsets_show_ties.Goals as goal

pub returns : goal.returns
returns c = λ network path chains offsets plan shows counted planned before.
    (shown_chains network path chains offsets plan shows, shown_after network path chains offsets plan shows counted planned before)
