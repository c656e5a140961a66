use Rattle.std.proofs.Common.{◌≡◌, ◌≤◌, length, drop}
use Rattle.tsn_diff.specs.Labels.{labelling_of}
use Rattle.tsn_diff.specs.Trail.{put_back_all}
use Rattle.tsn_diff.proofs.trail.Trail.put_back.Given as goal

abbrev pub invariant-loop-index : goal.invariant-loop-index
invariant-loop-index l =
    record {
      back : labelling_of l.labels ≡ put_back_all (drop l.index l.fn.self.formers.items) (labelling_of l.fn.labels);
      offsets : length l.labels.offsets.items ≡ length l.fn.labels.offsets.items;
      last : length l.labels.last.items ≡ length l.fn.labels.last.items;
      mark_in : l.fn.mark ≤ l.index;
      index_in : l.index ≤ length l.fn.self.formers.items;
    }
