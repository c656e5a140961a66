use Rattle.std.proofs.Common.{length, map, sym, ap, arith}
use Rattle.tsn_incumbent.specs.Teller.{Known}
use Rattle.tsn_worker.specs.declared.worker.Member.{Member}
use Rattle.tsn_worker.proofs.Bags.{given_more}
use Rattle.tsn_worker.proofs.team.tellers_of.Goals as goal

pub loop-member-preserved : goal.loop-member-preserved
loop-member-preserved g c =
    let f : Member g.row.K.Denot g.row.B.Denot → Known = λ m. m.settler.teller in
    let before = c.loop-member.invariant in
    let first = c.in-Some.ensures.steps.0 in
    let shorter = ap length first in
    let pushed = c.push_reserved.ensures in
    record {
      together = given_more f c.loop-member.tellers.items c.push_reserved.new.self.items c.in-Some.member
          c.loop-member.member-iterator.rest.items c.next.new.self.rest.items (map f c.args.members.items) (rw (sym c.into_teller.ensures) pushed.items) first before.together;
      room = omega (arith, before.room, shorter, pushed.len, pushed.capacity);
    }
