use Rattle.std.proofs.Common.{◌≡◌, ◌<◌, ◌++◌, ℕ, List, length, map, rules, slice_index_or, subst}
use Rattle.tsn_model.specs.Timing.{shifts}
use Rattle.tsn_replay.specs.Rows.{frame_passages, row_of}
use Rattle.tsn_model.proofs.More.{made_behind}
use Rattle.tsn_replay.proofs.rows.push_stream.Goals as goal

pub loop-shift-preserved : goal.loop-shift-preserved
loop-shift-preserved c =
    let network = c.args.times.timing.now in
    let all = shifts network c.args.stream in
    let place = c.loop-shift.shift-index in
    let same : c.shifts-shift-items.result.now ≡ all = search rules in
    let g = row_of network c.args.times.offsets.now c.args.times.width c.args.times.table.now in
    let f = frame_passages network c.args.cycle c.args.stream in
    record {
      so_far = made_behind g f c.args.rows.now.items all place 0 _ _ (subst (λ (list : List ℕ). place < length list) same c.loop-shift-test.true)
          c.loop-shift.invariant.so_far
          (subst
          (λ (list : List ℕ). c.push_frame.new.rows.items ≡ c.loop-shift.rows.items ++ map g (f (slice_index_or list place 0)))
          same c.in_ok-push_frame.ensures);
    }
