use Rattle.std.proofs.Common.{ℕ, ◌<◌, get_or}
use Rattle.tsn_conflict.specs.Raised.{triple_at}
use Rattle.tsn_conflict.specs.Pairs.{Meets}
use Rattle.tsn_conflict.proofs.sharing.Conflicts.meeting_with.Given as goal

abbrev pub invariant-loop-number : goal.invariant-loop-number
invariant-loop-number l = (k : ℕ) → k < l.number-index → Meets l.self.uses l.offsets (triple_at l.self.triples (get_or l.number-items k 0)) → ⊥
