use Rattle.std.proofs.Common.{◌≡◌, ◌<◌, ◌+◌, ◌++◌, length, map, vec_len}
use Rattle.std.specs.Prelude.{vec_capacity}
use Rattle.tsn_worker.proofs.team.tellers_of.Given as goal

abbrev pub invariant-loop-member : goal.invariant-loop-member
invariant-loop-member g l = record {
  together : l.tellers.items ++ map (λ member. member.settler.teller) l.member-iterator.rest.items ≡ map (λ m. m.settler.teller) l.fn.members.items;
  room : vec_len l.tellers + length l.member-iterator.rest.items < vec_capacity l.tellers;
}
