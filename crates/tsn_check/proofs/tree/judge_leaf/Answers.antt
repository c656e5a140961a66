use Rattle.tsn_check.proofs.tree.judge_leaf.Goals as goal

pub returns-in-Overrun : goal.returns-in-Overrun
returns-in-Overrun c = rw c.in-Overrun.is (c.judge_overrun.ensures c.args.target)

pub returns-in-Cycle : goal.returns-in-Cycle
returns-in-Cycle c = rw c.in-Cycle.is (c.judge_cycle.ensures c.args.target)

pub returns-in-Overload : goal.returns-in-Overload
returns-in-Overload c = rw c.in-Overload.is (c.judge_overload.ensures c.args.target)
