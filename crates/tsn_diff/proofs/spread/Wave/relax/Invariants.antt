use Rattle.std.proofs.Common.{◌≡◌, ℕ, ◌<◌, get_or}
use Rattle.tsn_model.specs.Arcs.{Holds}
use Rattle.tsn_diff.specs.declared.listing.Indexed.{Indexed}
use Rattle.tsn_diff.specs.declared.spread.Stage.TheVariants.{Settled}
use Rattle.tsn_diff.specs.Labels.{labelling_of}
use Rattle.tsn_diff.specs.Spread.{all_arcs, stage_of, IsWave, GoesOn}
use Rattle.tsn_diff.proofs.spread.Wave.relax.Given as goal

abbrev pub ghost-raise : goal.ghost-raise
ghost-raise g a = g.base

abbrev pub invariant-loop-indexed : goal.invariant-loop-indexed
invariant-loop-indexed g l =
    record {
      wave : IsWave g.base (labelling_of l.labels) l.stages l.self;
      goes_on : GoesOn (all_arcs g.base) (labelling_of l.fn.labels) (labelling_of l.labels) l.fn.stages l.stages l.fn.self.queue.items l.self.queue.items;
      settled : stage_of l.stages l.stream ≡ Settled;
      met : (k : ℕ) (default : Indexed) → k < l.indexed-index → Holds l.labels.offsets.items (get_or l.indexed-items k default).arc;
    }
