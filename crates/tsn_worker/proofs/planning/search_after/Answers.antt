use Rattle.std.proofs.Common.{sym, subst, ◌∙◌}
use Rattle.std.proofs.lemmas.Result.{IfOk-weaker}
use Rattle.tsn_answer.specs.Known.{HoldsKept, IsKnown}
use Rattle.tsn_answer.proofs.KnownLemmas.{HoldsKept-through, KeepsKept-through, KeepsKnown-through, LosesNothing-through}
use Rattle.tsn_worker.proofs.planning.search_after.Goals as goal

pub with_kept-requires : goal.with_kept-requires
with_kept-requires g c = subst (λ n. IsKnown n c.args.known) c.requires.search.of_network.timing c.requires.known

pub find_by_learning-requires : goal.find_by_learning-requires
find_by_learning-requires g c = record {
  known = subst (λ n. IsKnown n c.in_ok-known.known) (sym c.requires.search.of_network.timing ∙ c.args.task.now.timing) c.in_ok-known.ensures.known;
}

pub go_on-requires-clause-known : goal.go_on-requires-clause-known
go_on-requires-clause-known g c = subst (λ n. IsKnown n c.in-Open.known) (sym c.args.task.now.timing) c.in-Open.ensures.0

pub returns-in-Open-clause-kept : goal.returns-in-Open-clause-kept
returns-in-Open-clause-kept g c =
    let loses = LosesNothing-through c.args.known c.in_ok-known.known c.in-Open.known c.in_ok-known.ensures.kept c.in-Open.ensures.1 in
    IfOk-weaker c.go_on.result _ _ (λ found keeps. KeepsKnown-through c.args.known c.in-Open.known found loses keeps) c.go_on.ensures.kept

pub returns-in-Open-clause-kept_book : goal.returns-in-Open-clause-kept_book
returns-in-Open-clause-kept_book g c =
    let network = c.args.task.now.setting.now.tables.timing.now in
    let taken = subst (λ n. HoldsKept n c.args.book c.in_ok-known.known) (sym c.requires.search.of_network.timing) c.in_ok-known.ensures.taken in
    let holds = HoldsKept-through network c.args.book c.in_ok-known.known c.in-Open.known taken c.in-Open.ensures.1 in
    IfOk-weaker c.go_on.result _ _ (λ found keeps. KeepsKept-through network c.args.book c.in-Open.known found holds keeps) c.go_on.ensures.kept
