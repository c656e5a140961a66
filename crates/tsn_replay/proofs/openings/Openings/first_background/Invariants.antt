use Rattle.std.proofs.Common.{◌-◌, ◌≤◌, ◌<◌, ℕ}
use Rattle.tsn_replay.specs.Openings.{OctetHas, OpensBackground}
use Rattle.tsn_replay.proofs.openings.Openings.first_background.Given as goal

abbrev pub invariant-loop-at : goal.invariant-loop-at
invariant-loop-at l = record { forward : l.from ≤ l.at; closed : (u : ℕ) → l.from ≤ u → u < l.at → OctetHas l.self.entries u OpensBackground → ⊥ }

abbrev pub decreases-loop-at : goal.decreases-loop-at
decreases-loop-at l = l.end - l.at
