use Rattle.std.proofs.Common.{◌++◌, ap, ◌∙◌}
use Rattle.tsn_model.specs.Search.{children_of}
use Rattle.tsn_model.proofs.Histories.{open_paths-snoc, open_but-Without}
use Rattle.tsn_laws.proofs.search.open_paths_follow.Goals as goal

pub returns : goal.returns
returns c = λ network history settlement legal allowed.
    let gone = open_but-Without network history settlement.event.path legal allowed.is_open in (
      gone.front,
      gone.rest,
      gone.before,
      open_paths-snoc network history settlement legal allowed ∙ ap (λ others. others ++ children_of settlement.event.path settlement.event.outcome) gone.after,
    )
