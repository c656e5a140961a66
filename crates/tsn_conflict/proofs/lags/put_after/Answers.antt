use Rattle.std.proofs.Common.{◌≡◌, ◌<◌, ◌≤◌, pos, length, get_or, to_z, of_z, w64, sym, subst, ◌∙◌, arith}
use Rattle.std.specs.Prelude.{◌-ℤ◌}
use Rattle.std.proofs.lemmas.Grind.{get_or_default_zero}
use Rattle.std.proofs.lemmas.Int.{ints}
use Rattle.tsn_model.specs.Timing.{shifts}
use Rattle.tsn_model.specs.Arcs.{put_in}
use Rattle.tsn_conflict.proofs.Lagging.{after_taken, after_left, may_meet-from, late_apart, early_apart}
use Rattle.tsn_conflict.proofs.lags.put_after.Goals as goal
use Rattle.tsn_conflict.proofs.lags.put_after.Goals.{then-lag-left_period+then-lag-right_period-gt0+in_ok-put_in, else-lag-left_period, else-lag-left_period-via-then-lag-left_period+else-lag-right_period-gt0, else-lag-left_period-via-else-lag-left_period}

pub loop-second-preserved : goal.loop-second-preserved
loop-second-preserved c =
    let network = c.args.timing.now in
    let i = c.args.left in
    let j = c.args.right in
    let first = c.args.first in
    let old = c.args.lags.now.items in
    let n = c.loop-second.second-index in
    let known = c.loop-second.invariant in
    let so_far = known.so_far in
    let items = c.shifts-second-items.ensures.value in
    let inside : n < length (shifts network j) = subst (λ xs. n < length xs) items c.loop-second-test.true in
    let second = get_or (shifts network j) n 0 in
    let is : second ≡ get_or (shifts network j) n second = sym (get_or_default_zero (shifts network j) n second inside) in
    let same : get_or c.shifts-second-items.result.now n 0 ≡ second = (λ k. get_or (items k) n 0) in
    let small : get_or c.shifts-second-items.result.now n 0 ≤ 1018504000 = c.shifts-second-items.ensures.bound n 0 c.loop-second-test.true in
    let soon = c.requires.small in
    let lag : to_z w64 (of_z w64 (to_z w64 (get_or c.shifts-second-items.result.now n 0) -ℤ to_z w64 first)) ≡ pos second -ℤ pos first = omega
    (arith, ints, same, small, soon) in
    let left = known.left_period in
    let right = known.right_period in
    let left_short = known.left_short in
    let right_short = known.right_short in
    record {
      so_far = elim c.if-lag-left_period.branch [
        | then-lag-left_period+then-lag-right_period-gt0+in_ok-put_in w ↦
            let after = w.if-lag-left_period.true in
            let before = w.if-lag-right_period-gt0.true in
            let meet = may_meet-from network i j (pos second -ℤ pos first) (omega (arith, ints, after, lag, left))
            (omega (arith, ints, before, lag, right, right_short, small, soon)) in
            rw w.lags-is (w.in_ok-put_in.ensures ∙ (λ k. put_in (so_far k) (lag k)) ∙ sym (after_taken network i j old first n second inside is meet))
        | else-lag-left_period w ↦
            elim w.else-lag-left_period.branch [
              | else-lag-left_period-via-then-lag-left_period+else-lag-right_period-gt0 v ↦
                  let not_before = v.if-lag-right_period-gt0.false in
                  let apart = early_apart network i j (pos second -ℤ pos first) (omega (arith, ints, not_before, lag, right, right_short, small, soon)) in
                  rw w.lags-is (so_far ∙ sym (after_left network i j old first n second inside is apart))
              | else-lag-left_period-via-else-lag-left_period v ↦
                  let not_after = v.if-lag-left_period.false in
                  let apart = late_apart network i j (pos second -ℤ pos first) (omega (arith, ints, not_after, lag, left)) in
                  rw w.lags-is (so_far ∙ sym (after_left network i j old first n second inside is apart))
            ]
      ];
      left_period = left;
      right_period = right;
      left_short = left_short;
      right_short = right_short;
    }
