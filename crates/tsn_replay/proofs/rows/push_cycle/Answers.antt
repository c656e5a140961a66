use Rattle.std.proofs.Common.{◌++◌, List, map, sym, ap, ◌∙◌, append_assoc}
use Rattle.tsn_replay.specs.declared.trace.Row.{Row}
use Rattle.tsn_replay.specs.Rows.{row_of, stream_passages}
use Rattle.tsn_replay.proofs.ReplayTables.{pieces_more}
use Rattle.tsn_replay.proofs.rows.push_cycle.Goals as goal

pub loop-stream-preserved : goal.loop-stream-preserved
loop-stream-preserved c =
    let right = row_of c.args.times.timing.now c.args.times.offsets.now c.args.times.width c.args.times.table.now in
    record {
      so_far =
          c.in_ok-push_stream.ensures
          ∙ (ap (λ (rows : List Row). rows ++ map right (stream_passages c.args.times.timing.now c.args.cycle c.loop-stream.stream)) c.loop-stream.invariant.so_far
          ∙ (append_assoc c.args.rows.now.items _ _ ∙ ap (λ (rows : List Row). c.args.rows.now.items ++ rows) (sym (pieces_more right (stream_passages c.args.times.timing.now c.args.cycle) c.loop-stream.stream))));
      last = c.loop-stream.invariant.last;
    }
