use Rattle.std.proofs.Common.{arith}
use Rattle.std.proofs.lemmas.Int.{ints}
use Rattle.tsn_timing.proofs.Sending.{Sends-counted}
use Rattle.tsn_timing.proofs.Lagging.{lag_judged_back}
use Rattle.tsn_timing.proofs.timing.Timing.is_lag.Goals as goal

pub returns-then-left-streams : goal.returns-then-left-streams
returns-then-left-streams c =
    λ lag.
    let left = Sends-counted c.args.self.now c.args.left lag.first lag.first_sent in
    let right = Sends-counted c.args.self.now c.args.right lag.second lag.second_sent in
    grind arith

pub returns-else-shifts : goal.returns-else-shifts
returns-else-shifts c =
    let after = c.if-lag-period.false in
    let before = c.if-lag-period-2.false in
    let left = c.period.ensures.value in
    let left_within = c.period.ensures.bound in
    let right = c.period-else-lag-period.ensures.value in
    let right_within = c.period-else-lag-period.ensures.bound in
    lag_judged_back c.args.self.now c.args.left c.args.right c.args.lag _ (omega (arith, ints, after, left, left_within))
    (omega (arith, ints, before, right, right_within)) c.comes_after-else-shifts.result
    (omega (arith, ints, after, before, left_within, right_within)) c.comes_after-else-shifts.ensures
