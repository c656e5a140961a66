use Rattle.std.proofs.Common.{◌≡◌}
use Rattle.tsn_timing.specs.Users.{users_in}
use Rattle.tsn_timing.proofs.Using.{empty_lists}
use Rattle.tsn_timing.proofs.users.no_users.Given as goal

abbrev pub invariant-loop-link : goal.invariant-loop-link
invariant-loop-link l = users_in l.lists.items ≡ empty_lists l._link
