use Rattle.std.proofs.Common.{◌≡◌, ◌++◌, List, map, sym, ap, ◌∙◌, arith}
use Rattle.std.specs.List.{flat_map, range_with_len}
use Rattle.tsn_replay.specs.declared.trace.Row.{Row}
use Rattle.tsn_replay.specs.Rows.{row_of, cycle_passages}
use Rattle.tsn_replay.proofs.ReplayTables.{pieces_more}
use Rattle.tsn_replay.proofs.rows.rows_by.Goals as goal

pub loop-cycle-preserved : goal.loop-cycle-preserved
loop-cycle-preserved c =
    let right = row_of c.args.times.timing.now c.args.times.offsets.now c.args.times.width c.args.times.table.now in
    record {
      so_far =
          c.in_ok-push_cycle.ensures
          ∙ (ap (λ (rows : List Row). rows ++ map right (cycle_passages c.args.times.timing.now c.loop-cycle.cycle)) c.loop-cycle.invariant.so_far
          ∙ sym (pieces_more right (cycle_passages c.args.times.timing.now) c.loop-cycle.cycle));
      upto = omega arith;
    }

pub returns : goal.returns
returns c =
    let same : c.loop-cycle.cycle ≡ c.args.times.cycles = omega arith in
    c.loop-cycle.invariant.so_far
    ∙ ap (λ n. map (row_of c.args.times.timing.now c.args.times.offsets.now c.args.times.width c.args.times.table.now) (flat_map (cycle_passages c.args.times.timing.now) (range_with_len 0 n))) same
