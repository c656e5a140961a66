use Rattle.std.proofs.Common.{◌≡◌, ◌≤◌, ◌+◌, ◌++◌, length, map, vec_len}
use Rattle.std.specs.Prelude.{vec_capacity}
use Rattle.tsn_worker.proofs.team.team_of.Given as goal

abbrev pub invariant-loop-teller : goal.invariant-loop-teller
invariant-loop-teller g l = record {
  together : map (λ member. member.settler.teller) l.members.items ++ l.teller-iterator.rest.items ≡ l.fn.tellers.items;
  left : length l.teller-iterator.rest.items ≡ length l.bags.rest.items;
  room : vec_len l.members + length l.teller-iterator.rest.items ≤ vec_capacity l.members;
}
