use Rattle.std.proofs.Common.{◌≡◌, ◌/◌, get_or, sym, ap, ◌∙◌, arith}
use Rattle.std.proofs.lemmas.List.{get_or_default}
use Rattle.tsn_model.specs.Argument.{filled}
use Rattle.tsn_model.proofs.Rooms.{filled-le}
use Rattle.tsn_sums.proofs.Sums.{filled_at}
use Rattle.tsn_sums.proofs.Wastes.{wasted_few, wasted_many}
use Rattle.tsn_sums.proofs.table.Table.wasted.Goals as goal

pub overflow_sub-result : goal.overflow_sub-result
overflow_sub-result c =
    let within = c.requires.within c.if-room-unit.true in
    let table = c.self.inside.filled.items in
    let is : get_or table (c.args.room / c.args.unit) 0 ≡ filled c.args.works.now c.args.room =
    ap (λ list. get_or list (c.args.room / c.args.unit) 0) c.self.view_is
    ∙ filled_at c.args.unit c.args.units c.args.works.now c.requires.unit c.args.self.now c.requires.tells c.args.room within in
    let there = get_or_default table (c.args.room / c.args.unit) c.index.result.now 0 (omega (arith, within, c.self.invariant.1)) in
    let low = filled-le c.args.works.now c.args.room in
    omega (arith, is, low, there)

pub returns-then-room-unit : goal.returns-then-room-unit
returns-then-room-unit c =
    let within = c.requires.within c.if-room-unit.true in
    let table = c.self.inside.filled.items in
    let is : get_or table (c.args.room / c.args.unit) 0 ≡ filled c.args.works.now c.args.room =
    ap (λ list. get_or list (c.args.room / c.args.unit) 0) c.self.view_is
    ∙ filled_at c.args.unit c.args.units c.args.works.now c.requires.unit c.args.self.now c.requires.tells c.args.room within in
    let there = get_or_default table (c.args.room / c.args.unit) c.index.result.now 0 (omega (arith, within, c.self.invariant.1)) in
    let few = wasted_few c.args.unit c.args.works.now c.args.room c.if-room-unit.true in
    omega (arith, is, few, there)

pub returns-else-room-unit : goal.returns-else-room-unit
returns-else-room-unit c = sym (wasted_many c.args.unit c.args.works.now c.args.room (omega (arith, c.if-room-unit.false)))
