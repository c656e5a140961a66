use Rattle.std.proofs.Common.{◌≡◌}
use Rattle.tsn_tests_search.proofs.nodes.shared_search.one_by_one.Given as goal

abbrev pub invariant-loop-row : goal.invariant-loop-row
invariant-loop-row g l = l.core.network ≡ l.timing
