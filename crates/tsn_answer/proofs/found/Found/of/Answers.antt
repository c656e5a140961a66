use Rattle.std.proofs.Common.{sym, subst, arith}
use Rattle.std.proofs.lemmas.List.{nil_from_length}
use Rattle.tsn_model.specs.Search.{open_paths}
use Rattle.tsn_answer.specs.Known.{HoldsKept, IsKnown}
use Rattle.tsn_answer.proofs.Deciding.{stopped, finished_for}
use Rattle.tsn_answer.proofs.found.Found.of.Goals as goal

pub returns-then-open_count-eq0-clause-found : goal.returns-then-open_count-eq0-clause-found
returns-then-open_count-eq0-clause-found c =
    let none = c.if-open_count-eq0.true in
    finished_for c.args.timing.now c.args.limit c.args.book c.requires.formed c.open_count.ensures.lawful c.requires.network c.requires.limit
    (nil_from_length (open_paths c.args.book.history) (omega (arith, c.open_count.ensures.count)))

pub with_kept-requires : goal.with_kept-requires
with_kept-requires c = subst (λ n. IsKnown n c.args.known) (sym c.requires.network) c.requires.known

pub returns-in-Ok-clause-found : goal.returns-in-Ok-clause-found
returns-in-Ok-clause-found c =
    let some = c.if-open_count-eq0.false in
    let same = c.requires.network in
    record {
      stopped = stopped c.args.timing.now c.args.limit c.args.book c.open_count.ensures.lawful c.requires.network c.requires.limit c.requires.done (omega (arith, c.open_count.ensures.count));
      so = subst (λ n. IsKnown n c.in-Ok.known) same c.in-Ok.ensures.known;
      kept = subst (λ n. HoldsKept n c.args.book c.in-Ok.known) same c.in-Ok.ensures.taken;
    }
