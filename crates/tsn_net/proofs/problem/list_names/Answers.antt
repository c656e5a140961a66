use Rattle.std.proofs.Common.{ap, ◌∙◌}
use Rattle.tsn_timing.specs.ProblemView.{names_in}
use Rattle.tsn_net.proofs.ProblemLemmas.{listed-next}
use Rattle.tsn_net.proofs.problem.list_names.Goals as goal

pub loop-table-preserved : goal.loop-table-preserved
loop-table-preserved c =
    ap names_in c.in_ok-push.ensures.items
    ∙ listed-next c.args.tables.now c.loop-table.table-index c.table-item.result c.loop-table.names.items c.in_ok-name.name
    c.loop-table-test.true c.table-item.is c.loop-table.invariant (c.in_ok-name.ensures.ok ∙ c.text_at.ensures)
