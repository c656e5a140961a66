use Rattle.std.proofs.Common.{sym, subst}
use Rattle.tsn_branch.specs.Bound.{IsLowerBound}
use Rattle.tsn_worker.proofs.Bounds.{kept_bound}
use Rattle.tsn_worker.proofs.telling.tell_kept.Goals as goal

pub tell_bound-requires : goal.tell_bound-requires
tell_bound-requires g c =
    let network = c.args.task.now.setting.now.tables.timing.now in
    subst (IsLowerBound network) (sym c.flowspan.ensures)
    (kept_bound network c.args.task.now.effort.limit c.args.book.now c.in-Some.kept.now c.requires c.in-Some.ensures.kept c.in-Some.ensures.best.0)
