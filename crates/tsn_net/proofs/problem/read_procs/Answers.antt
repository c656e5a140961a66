use Rattle.std.proofs.Common.{◌∙◌}
use Rattle.tsn_net.specs.declared.schema.Key.TheVariants as key
use Rattle.tsn_net.specs.Problem.{number_at}
use Rattle.tsn_net.proofs.ProblemLemmas.{values-next}
use Rattle.tsn_net.proofs.problem.read_procs.Goals as goal

pub loop-node-preserved : goal.loop-node-preserved
loop-node-preserved c =
    c.in_ok-push.ensures.items
    ∙ values-next (number_at key.Proc) c.args.nodes.now c.loop-node.node-index c.node-item.result c.loop-node.procs.items c.number_at.result
    c.loop-node-test.true c.node-item.is c.loop-node.invariant c.number_at.ensures
