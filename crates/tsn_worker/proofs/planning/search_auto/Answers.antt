use Rattle.std.proofs.lemmas.Result.{IfOk-weaker}
use Rattle.tsn_answer.proofs.KnownLemmas.{KeepsFound-through}
use Rattle.tsn_worker.proofs.planning.search_auto.Goals as goal

pub returns-clause-kept : goal.returns-clause-kept
returns-clause-kept g c =
    IfOk-weaker c.search_beyond.result _ _
    (λ searched keeps. KeepsFound-through c.args.known c.in_ok-first.first.found searched.found c.in_ok-first.ensures.kept keeps)
    c.search_beyond.ensures.kept
