use Rattle.std.proofs.Common.{◌+◌, ◌-◌, ap, ◌∙◌, arith}
use Rattle.tsn_model.specs.Argument.{wasted}
use Rattle.tsn_sums.proofs.Wastes.{full_behind, full_on}
use Rattle.tsn_sums.proofs.places.next_place.Goals as goal

pub returns-clause-full : goal.returns-clause-full
returns-clause-full c = λ x after below.
    let least = c.min.ensures in
    full_on c.args.left.unit c.args.left.works.now c.args.right.works.now c.requires.left.unit c.args.room.idle c.args.room.low c.args.room.high
    c.args.room.work
    c.args.x c.requires.full (omega (arith, c.if-part-left.false)) x after (omega arith) (omega arith)

pub returns-then-part-left-clause-full : goal.returns-then-part-left-clause-full
returns-then-part-left-clause-full c = λ x after below.
    let is = c.wasted-after.ensures.value
    ∙ ap (λ unit. wasted unit c.args.right.works.now (c.args.room.high - (c.args.x + c.args.room.work))) c.requires.same in
    let greater = c.max.ensures in
    full_behind c.args.left.unit c.args.left.works.now c.args.right.works.now c.args.room.idle c.args.room.low c.args.room.high c.args.room.work
    c.args.x c.wasted-after.result c.saturating_sub-more.result c.requires.full is c.saturating_sub-more.ensures x after (omega (arith, below, greater))
