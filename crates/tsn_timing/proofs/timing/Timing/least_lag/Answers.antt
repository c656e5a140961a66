use Rattle.std.proofs.Common.{◌≡◌, ◌<◌, ◌≤◌, to_z, of_z, w64, length, get_or, subst, arith}
use Rattle.std.proofs.lemmas.Int.{ints}
use Rattle.tsn_model.specs.Timing.{shifts}
use Rattle.tsn_timing.specs.Judgement.{IsBetween}
use Rattle.tsn_timing.proofs.Lagging.{between_more, between_found, between_missing}
use Rattle.tsn_timing.proofs.timing.Timing.least_lag.Goals as goal

pub loop-first-preserved : goal.loop-first-preserved
loop-first-preserved c =
    let network = c.args.self.now in
    let i = c.args.left in
    let j = c.args.right in
    let n = c.loop-first.first-index in
    let items = c.shifts-first-items.ensures.value in
    let inside : n < length (shifts network i) = subst (λ xs. n < length xs) items c.loop-first-test.true in
    let out : c.least_after-least.result ≡ to_z w64 (of_z w64 c.least_after-least.result) = omega (arith, ints) in
    rw (← out) (between_more network i j (to_z w64 (of_z w64 c.args.above)) (to_z w64 (of_z w64 c.args.below)) n (get_or c.shifts-first-items.result.now n 0)
    (to_z w64 c.loop-first.least-bits) c.least_after-least.result inside (λ k. get_or (items k) n 0) c.least_after-least.ensures.within
    c.least_after-least.ensures.reached c.least_after-least.ensures.least c.loop-first.invariant)

pub returns-then-least-below : goal.returns-then-least-below
returns-then-least-below c =
    let network = c.args.self.now in
    let i = c.args.left in
    let j = c.args.right in
    let n = c.loop-first.first-index in
    let least = to_z w64 c.loop-first.least-bits in
    let items = c.shifts-first-items.ensures.value in
    let ended = c.loop-first-test.false in
    let all : length (shifts network i) ≤ n = subst (λ xs. length xs ≤ n) items ended in
    let above : to_z w64 (of_z w64 c.args.above) ≡ c.args.above = omega (arith, ints) in
    let below : to_z w64 (of_z w64 c.args.below) ≡ c.args.below = omega (arith, ints) in
    let less = c.if-least-below.true in
    rw (← above, ← below) (between_found network i j _ _ n least all c.loop-first.invariant (omega (arith, ints, less)))

pub returns-else-least-below : goal.returns-else-least-below
returns-else-least-below c =
    λ lag between.
    let network = c.args.self.now in
    let i = c.args.left in
    let j = c.args.right in
    let n = c.loop-first.first-index in
    let least = to_z w64 c.loop-first.least-bits in
    let items = c.shifts-first-items.ensures.value in
    let ended = c.loop-first-test.false in
    let all : length (shifts network i) ≤ n = subst (λ xs. length xs ≤ n) items ended in
    let above : c.args.above ≡ to_z w64 (of_z w64 c.args.above) = omega (arith, ints) in
    let below : c.args.below ≡ to_z w64 (of_z w64 c.args.below) = omega (arith, ints) in
    let no_less = c.if-least-below.false in
    between_missing network i j _ _ n least all c.loop-first.invariant (omega (arith, ints, no_less)) lag
    (subst (λ low. IsBetween network i j low (to_z w64 (of_z w64 c.args.below)) lag) above (subst (λ high. IsBetween network i j c.args.above high lag) below between))
