use Rattle.std.proofs.Common.{length, ap, arith}
use Rattle.tsn_incumbent.specs.Teller.{Known}
use Rattle.tsn_worker.specs.declared.worker.Member.{Member}
use Rattle.tsn_worker.proofs.Bags.{taken_more}
use Rattle.tsn_worker.proofs.team.team_of.Goals as goal

pub loop-teller-preserved : goal.loop-teller-preserved
loop-teller-preserved g c =
    let f : Member g.row.K.Denot g.row.B.Denot → Known = λ m. m.settler.teller in
    let before = c.loop-teller.invariant in
    let first = c.in-Some.ensures.steps.0 in
    let shorter = ap length first in
    let fewer = ap length c.in-Some-next.ensures.items in
    let pushed = c.push_reserved.ensures in
    record {
      together = taken_more f c.loop-teller.members.items c.push_reserved.new.self.items (record { settler = c.new-settler.result; bag = c.in-Some-next.bag })
          c.loop-teller.teller-iterator.rest.items c.next.new.self.rest.items c.args.tellers.items pushed.items (rw c.new-settler.ensures first) before.together;
      left = omega (arith, before.left, shorter, fewer);
      room = omega (arith, before.room, shorter, pushed.len, pushed.capacity);
    }
