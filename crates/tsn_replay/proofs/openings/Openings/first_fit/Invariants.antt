use Rattle.std.proofs.Common.{◌-◌, ◌+◌, ◌≤◌, ◌<◌, ℕ}
use Rattle.tsn_replay.specs.Openings.{OctetHas, OpensScheduled, IsOpenFor}
use Rattle.tsn_replay.proofs.openings.Openings.first_fit.Given as goal

abbrev pub invariant-loop-start : goal.invariant-loop-start
invariant-loop-start l = record {
  forward : l.from ≤ l.start;
  order : l.start ≤ l.at;
  near : l.at < l.start + l.length;
  open' : (u : ℕ) → l.start ≤ u → u < l.at → OctetHas l.self.entries u OpensScheduled;
  none : (u : ℕ) → l.from ≤ u → u < l.start → IsOpenFor l.self.entries l.length u → ⊥;
}

abbrev pub decreases-loop-start : goal.decreases-loop-start
decreases-loop-start l = l.end + l.length - l.at
