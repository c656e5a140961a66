use Rattle.std.proofs.Common.{◌≡◌}
use Rattle.tsn_incumbent.specs.Teller.{IsEven}
use Rattle.tsn_walk.specs.Below.{IsBelow}
use Rattle.tsn_worker.proofs.start.settle_until.Given as goal

abbrev pub invariant-loop : goal.invariant-loop
invariant-loop g l = record {
  even : IsEven l.caller.teller;
  number : l.caller.teller.standing.number ≡ l.initial.caller.teller.standing.number;
  below : IsBelow l.context.setting.now.tables.timing.now l.context.setting.now.tables.conflicts.now.triples l.below;
}
