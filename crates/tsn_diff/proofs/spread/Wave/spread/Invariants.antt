use Rattle.std.proofs.Common.{ℕ, ◌+◌, ◌-◌, ◌*◌, ◌<◌, ◌≤◌, length, drop, sum}
use Rattle.tsn_diff.specs.Labels.{labelling_of}
use Rattle.tsn_diff.specs.Spread.{all_arcs, IsWave, IsSeen, AreQueued}
use Rattle.tsn_diff.proofs.spread.Wave.spread.Given as goal

abbrev pub ghost-raise : goal.ghost-raise
ghost-raise g a = g.base

abbrev pub ghost-relax : goal.ghost-relax
ghost-relax g a = g.base

abbrev pub invariant-loop-turn : goal.invariant-loop-turn
invariant-loop-turn g l =
    record {
      wave : IsWave g.base (labelling_of l.labels) l.stages l.self;
      seen : (index : ℕ) → index < length (all_arcs g.base) → IsSeen (all_arcs g.base) (labelling_of l.labels) l.stages index;
      queued : AreQueued l.stages (drop l.turn l.self.queue.items);
      turn_in : l.turn ≤ length l.self.queue.items;
    }

-- how far the offsets are from the greatest that they can be, and the streams that wait
abbrev pub decreases-loop-turn : goal.decreases-loop-turn
decreases-loop-turn g l = (length l.labels.offsets.items * 154670000000 - sum l.labels.offsets.items) + (length l.self.queue.items - l.turn)
