use Rattle.std.proofs.Common.{◌≡◌}
use Rattle.tsn_incumbent.specs.Teller.{IsEven}
use Rattle.tsn_worker.proofs.worker.work_on.Given as goal

abbrev pub invariant-loop : goal.invariant-loop
invariant-loop g l = record {
  even : IsEven l.member.settler.teller;
  number : l.member.settler.teller.standing.number ≡ l.initial.member.settler.teller.standing.number;
}
