use Rattle.tsn_command.proofs.command.run_to.Goals as goal

pub returns-in-Valid : goal.returns-in-Valid
returns-in-Valid g c = rw c.in-Valid.is (rw c.deref.ensures.value at c.network.ensures)

pub returns-in-Plan : goal.returns-in-Plan
returns-in-Plan g c = rw c.in-Plan.is c.plan.ensures

pub returns-in-Prove : goal.returns-in-Prove
returns-in-Prove g c = rw c.in-Prove.is c.prove.ensures

pub returns-in-Gates : goal.returns-in-Gates
returns-in-Gates g c = rw c.in-Gates.is (rw c.gates_options.ensures at c.table.ensures)

pub returns-in-Replay : goal.returns-in-Replay
returns-in-Replay g c = rw c.in-Replay.is (rw c.replay_options.ensures at c.table-in-Replay.ensures)
