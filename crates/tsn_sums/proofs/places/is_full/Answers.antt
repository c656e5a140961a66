use Rattle.std.proofs.Common.{◌+◌, ◌-◌, ap, ◌∙◌, arith}
use Rattle.tsn_model.specs.Argument.{wasted}
use Rattle.tsn_sums.proofs.Wastes.{match_lt}
use Rattle.tsn_sums.proofs.places.is_full.Goals as goal

pub returns : goal.returns
returns c =
    let before = c.wasted-before.ensures.value in
    let after = c.wasted-after.ensures.value
    ∙ ap (λ unit. wasted unit c.args.right.works.now (c.args.room.high - (c.args.x + c.args.room.work))) c.requires.same in
    let low = c.if-x-low.false in
    let high = c.if-end-high.false in
    match_lt c.args.room.idle (c.wasted-before.result + c.wasted-after.result)
    (λ more. record { begin = omega (arith, low); end = omega (arith, high); full = omega (arith, before, after, more) })
    (λ few full. let more = full.full in few (omega (arith, before, after, more)))
