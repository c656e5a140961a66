use Rattle.std.proofs.Common.{◌≡◌, ℕ, ◌<◌, length, get_or}
use Rattle.tsn_model.specs.Bridge.{LinkGates}
use Rattle.tsn_gate.specs.Merged.{IsMerged}
use Rattle.tsn_gate.proofs.merged.merge_all.Given as goal

abbrev pub invariant-loop-list : goal.invariant-loop-list
invariant-loop-list l = record { count : length l.merged.items ≡ l.list-index; each : (k : ℕ) (d : LinkGates) → k < l.list-index → IsMerged l.least (get_or l.lists k d) (get_or l.merged.items k d) }
