use Rattle.std.proofs.Common.{◌≡◌, drop}
use Rattle.tsn_net.specs.DocumentView.{routes_view}
use Rattle.tsn_net.specs.Conditions.{given_again}
use Rattle.tsn_net.proofs.steps.given_again.Given as goal

-- the first of the rest that is given again is that of all
abbrev pub invariant-loop-k : goal.invariant-loop-k
invariant-loop-k l = given_again (routes_view (drop l.k l.routes)) ≡ given_again (routes_view l.routes)
