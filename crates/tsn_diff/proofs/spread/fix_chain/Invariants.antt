use Rattle.std.proofs.Common.{◌≡◌, ◌<◌, length}
use Rattle.tsn_diff.proofs.Fixes.{AreFixedTo}
use Rattle.tsn_diff.proofs.spread.fix_chain.Given as goal

abbrev pub invariant-loop : goal.invariant-loop
invariant-loop l =
    record {
      end_is : l.end ≡ length l.labels.last.items;
      room : length l.stages ≡ length l.fn.stages;
      stream_in : l.stream < length l.labels.last.items;
      fixed : AreFixedTo l.labels.last.items l.stages l.fn.stream l.stream l.counter;
    }
