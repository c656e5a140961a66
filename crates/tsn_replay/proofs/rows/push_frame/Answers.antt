use Rattle.std.proofs.Common.{◌++◌, ◌∷◌, [], List, map, sym, ap, ◌∙◌, append_assoc}
use Rattle.std.specs.List.{range_with_len}
use Rattle.tsn_replay.specs.declared.trace.Row.{Row}
use Rattle.tsn_replay.specs.Rows.{row_of}
use Rattle.tsn_replay.proofs.ReplayTables.{passage_at, hop_more}
use Rattle.tsn_replay.proofs.rows.push_frame.Goals as goal

pub loop-hop-preserved : goal.loop-hop-preserved
loop-hop-preserved c =
    let right = row_of c.args.times.timing.now c.args.times.offsets.now c.args.times.width c.args.times.table.now in
    record {
      so_far =
          c.in_ok-push.ensures.items
          ∙ (ap (λ (rows : List Row). rows ++ c.row.result ∷ []) c.loop-hop.invariant.so_far
          ∙ (append_assoc c.args.rows.now.items (map right (map (passage_at c.args.cycle c.args.stream c.args.shift) (range_with_len 0 c.loop-hop.hop)))
          (c.row.result ∷ [])
          ∙ ap (λ (rows : List Row). c.args.rows.now.items ++ rows)
          (ap (λ (one : Row). map right (map (passage_at c.args.cycle c.args.stream c.args.shift) (range_with_len 0 c.loop-hop.hop)) ++ one ∷ [])
          c.row.ensures ∙ sym (hop_more right c.args.cycle c.args.stream c.args.shift c.loop-hop.hop))));
      last = c.loop-hop.invariant.last;
    }
