use Rattle.tsn_walk.specs.Search.{IsFurther}
use Rattle.tsn_walk.specs.Below.{IsBelow}
use Rattle.tsn_walk.proofs.search.settle_on.Given as goal

abbrev pub invariant-loop : goal.invariant-loop
invariant-loop g l = record {
  further : IsFurther l.course.teller l.fn.book l.book;
  below : IsBelow l.course.setting.now.tables.timing.now l.course.setting.now.tables.conflicts.now.triples l.below;
}
