use Rattle.std.proofs.Common.{◌≡◌, ◌+◌, ◌<◌, ◌≤◌, ℤ, pos, ◌-ℤ◌, to_z, of_z, w64, length, get_or, refl, sym, subst, arith}
use Rattle.std.proofs.lemmas.Int.{ints}
use Rattle.tsn_model.specs.Timing.{shifts}
use Rattle.tsn_timing.specs.Judgement.{IsAfter}
use Rattle.tsn_timing.proofs.Lagging.{IsLeastAfter, after_none, after_taken, after_left, after_all}
use Rattle.tsn_timing.proofs.timing.Timing.least_after.Goals as goal
use Rattle.tsn_timing.proofs.timing.Timing.least_after.Goals.{then-above-lag+then-lag-least, else-above-lag, else-above-lag-via-then-above-lag+else-lag-least, else-above-lag-via-else-above-lag}

pub loop-second-init : goal.loop-second-init
loop-second-init c =
    let below : to_z w64 (of_z w64 c.args.below) ≡ c.args.below = omega (arith, ints) in
    after_none c.args.self.now c.args.stream c.args.first _ _ c.shifts_between-second-items.result.now

pub loop-second-preserved : goal.loop-second-preserved
loop-second-preserved c =
    let network = c.args.self.now in
    let j = c.args.stream in
    let first = c.args.first in
    let n = c.loop-second.second-index in
    let above = to_z w64 (of_z w64 c.args.above) in
    let below = to_z w64 (of_z w64 c.args.below) in
    let old = to_z w64 c.loop-second.least-bits in
    let out = to_z w64 c.if-above-lag.least-bits in
    let part = c.shifts_between-second-items.result.now in
    let inside = c.loop-second-test.true in
    let small : get_or part n 0 ≤ 1018504000 = c.shifts_between-second-items.ensures.bound n 0 inside in
    let soon = c.requires.small in
    let lag : ℤ = pos (get_or part n 0) -ℤ pos first in
    elim c.if-above-lag.branch [
      | then-above-lag+then-lag-least w ↦
          let more = w.if-above-lag.true in
          let less = w.if-lag-least.true in
          let is : lag ≡ out = omega (arith, ints, w.least-is, small, soon) in
          rw (← is) (after_taken network j first above below part _ _ c.shifts_between-second-items.ensures.part n old lag inside refl
          (omega (arith, ints, more, small, soon)) (omega (arith, ints, less, small, soon)) c.loop-second.invariant)
      | else-above-lag w ↦
          subst (IsLeastAfter network j first above below part (n + 1)) (sym w.least-is)
          (after_left network j first above below part n old lag refl
          (λ over. elim w.else-above-lag.branch [
            | else-above-lag-via-then-above-lag+else-lag-least v ↦ let no_less = v.if-lag-least.false in
                omega (arith, ints, no_less, small, soon)
            | else-above-lag-via-else-above-lag v ↦ let no_more = v.if-above-lag.false in
                absurd (omega (arith, ints, no_more, over, small, soon))
          ])
          c.loop-second.invariant)
    ]

pub returns-clause-least : goal.returns-clause-least
returns-clause-least c =
    λ lag after.
    let network = c.args.self.now in
    let j = c.args.stream in
    let first = c.args.first in
    let above : c.args.above ≡ to_z w64 (of_z w64 c.args.above) = omega (arith, ints) in
    let below : c.args.below ≡ to_z w64 (of_z w64 c.args.below) = omega (arith, ints) in
    let soon = c.requires.small in
    let low = c.requires.above in
    let high = c.requires.below in
    after_all network j first _ _ c.shifts_between-second-items.result.now _ _ c.shifts_between-second-items.ensures.part
    (omega (arith, ints, soon, low, above)) (omega (arith, ints, soon, high, below))
    c.loop-second.second-index (to_z w64 c.loop-second.least-bits) c.loop-second-test.false c.loop-second.invariant lag
    (subst (λ low. IsAfter network j first low (to_z w64 (of_z w64 c.args.below)) lag) above
    (subst (λ high. IsAfter network j first c.args.above high lag) below after))
