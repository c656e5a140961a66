use Rattle.std.proofs.Common.{sym, subst}
use Rattle.std.proofs.lemmas.Result.{IfOk-weaker}
use Rattle.tsn_answer.specs.Known.{IsKnown}
use Rattle.tsn_answer.proofs.KnownLemmas.{KeepsKnown-through}
use Rattle.tsn_worker.proofs.planning.search_learning.Goals as goal

pub find_by_learning-requires : goal.find_by_learning-requires
find_by_learning-requires g c = record { known = subst (λ n. IsKnown n c.args.known) c.args.task.now.timing c.requires.known }

pub search_with-requires-clause-known : goal.search_with-requires-clause-known
search_with-requires-clause-known g c = λ ks lives. subst (λ n. IsKnown n c.in-Open.known) (sym c.args.task.now.timing) c.in-Open.ensures.0

pub returns-in-Open-clause-kept : goal.returns-in-Open-clause-kept
returns-in-Open-clause-kept g c =
    IfOk-weaker c.search_with.result _ _ (λ searched keeps. KeepsKnown-through c.args.known c.in-Open.known searched.found c.in-Open.ensures.1 keeps)
    c.search_with.ensures.kept
