use Rattle.std.proofs.Common.{sym, subst}
use Rattle.tsn_book.specs.Book.{Progress}
use Rattle.tsn_walk.specs.Search.{IsFurther}
use Rattle.tsn_walk.proofs.Further.{goes_on}
use Rattle.tsn_walk.proofs.search.settle_all.Goals as goal
use Rattle.tsn_walk.proofs.search.settle_all.Goals.{else-settlements-test, then-settlements-test+then-open_count-eq0, then-open_count-eq0-via-then-open_count-eq0, then-open_count-eq0-via-else-open_count-eq0+in_ok-settle_more+then-not-branch}

pub returns-clause-further : goal.returns-clause-further
returns-clause-further g c =
    let Follows : Progress → Type 0 = IsFurther c.args.course.now.teller c.args.book.now in
    let so_far = c.settlements.invariant.further in
    elim c.settlements-test.branch [
      | else-settlements-test w ↦ subst Follows (sym w.book-is) so_far
      | then-settlements-test+then-open_count-eq0 w ↦ subst Follows (sym w.book-is) (elim w.then-open_count-eq0.branch [
        | then-open_count-eq0-via-then-open_count-eq0 v ↦ subst Follows (sym v.book-is) so_far
        | then-open_count-eq0-via-else-open_count-eq0+in_ok-settle_more+then-not-branch v ↦
            subst Follows (sym v.book-is) (goes_on _ _ _ _ so_far v.settle_more.ensures.further)
      ])
    ]
