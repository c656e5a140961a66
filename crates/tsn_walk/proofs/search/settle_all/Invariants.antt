use Rattle.std.proofs.Common.{◌-◌, length}
use Rattle.tsn_walk.specs.Search.{IsFurther}
use Rattle.tsn_walk.proofs.search.settle_all.Given as goal

abbrev pub invariant-settlements : goal.invariant-settlements
invariant-settlements g l = record { further : IsFurther l.course.teller l.fn.book l.book }

abbrev pub decreases-settlements : goal.decreases-settlements
decreases-settlements g l = l.course.until - length l.book.history
