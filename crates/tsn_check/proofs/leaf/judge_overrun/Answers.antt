use Rattle.std.proofs.Common.{◌≡◌, pos, ◌+ℤ◌, to_z, of_z, w64, inl, inr, arith}
use Rattle.std.proofs.lemmas.Int.{ints, clamps}
use Rattle.tsn_model.specs.Timing.{arrival, span}
use Rattle.tsn_model.specs.Schedule.{latest_offset}
use Rattle.tsn_model.specs.Certificate.{sum_on}
use Rattle.tsn_check.specs.Turns.{decisions}
use Rattle.tsn_check.specs.declared.why.Shortfall.TheVariants.{Overrun}
use Rattle.tsn_check.proofs.leaf.judge_overrun.Goals as goal

pub returns : goal.returns
unfolding latest_offset
returns c target =
    let network = c.args.timing.now in
    let stream = c.args.stream in
    let sum = c.in_ok-sum.sum in
    let adds = c.in_ok-sum.ensures.adds in
    let low = c.in_ok-sum.ensures.low in
    let high = c.in_ok-sum.ensures.high in
    let arrives = c.arrival.ensures in
    let spans = c.span.ensures in
    let period = c.period.ensures in
    let latest = c.latest.ensures in
    let window = c.window.ensures.greatest in
    let within = c.if-sum-window.false in
    let ends : to_z w64 (of_z w64 (to_z w64 (of_z w64 sum) +ℤ to_z w64 c.span.result)) ≡ sum_on network (decisions c.args.path.now) c.args.chain.now stream +ℤ pos (span network stream) =
    omega (arith, ints) in
    let arrived : to_z w64 (of_z w64 (to_z w64 (of_z w64 sum) +ℤ to_z w64 c.arrival.result)) ≡ sum_on network (decisions c.args.path.now) c.args.chain.now stream +ℤ pos (arrival network stream) =
    omega (arith, ints) in (
      c.in_ok-sum.ensures.leads,
      λ proves. elim proves.1 [ inl past ↦ omega (arith, ints, clamps) | inr past ↦ omega (arith, ints, clamps) ],
      λ i. Overrun stream (ends i) (period.value i) (c.cycle.ensures.value i) (arrived i) (latest.value i),
    )
