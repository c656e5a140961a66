use Rattle.std.proofs.Common.{IfOk, sym, subst, arith}
use Rattle.tsn_answer.specs.Answer.{IsFound, KeepsFound}
use Rattle.tsn_answer.proofs.Deciding.{argued_within, finished_within}
use Rattle.tsn_worker.proofs.planning.search_beyond.Goals as goal

pub search_learning-requires-clause-known : goal.search_learning-requires-clause-known
search_learning-requires-clause-known g c =
    λ ks lives. (subst (IsFound c.args.task.now.setting.now.tables.timing.now 100000) c.in-Stopped.is c.requires.first).so

pub returns-in-Stopped-clause-kept : goal.returns-in-Stopped-clause-kept
returns-in-Stopped-clause-kept g c =
    subst (λ first. IfOk c.search_learning.result (λ searched. KeepsFound first searched.found)) (sym c.in-Stopped.is) c.search_learning.ensures.kept

pub returns-in-Argued-clause-found : goal.returns-in-Argued-clause-found
returns-in-Argued-clause-found g c =
    let network = c.args.task.now.setting.now.tables.timing.now in
    let more = c.requires.more in
    argued_within network 100000 c.args.task.now.effort.limit c.in-Argued.plan c.in-Argued.argument (omega arith)
    (subst (IsFound network 100000) c.in-Argued.is c.requires.first)

pub returns-in-Finished-clause-found : goal.returns-in-Finished-clause-found
returns-in-Finished-clause-found g c =
    let network = c.args.task.now.setting.now.tables.timing.now in
    let more = c.requires.more in
    finished_within network 100000 c.args.task.now.effort.limit c.in-Finished.finished (omega arith)
    (subst (IsFound network 100000) c.in-Finished.is c.requires.first)
