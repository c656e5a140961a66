use Rattle.std.proofs.Common.{arith}
use Rattle.tsn_sums.proofs.Wastes.{wasted_low}
use Rattle.tsn_sums.proofs.places.Told.wasted.Goals as goal

pub returns-clause-low : goal.returns-clause-low
returns-clause-low c =
    let low = wasted_low c.args.self.now.unit c.args.self.now.works.now c.args.room in
    let is = c.wasted.ensures in
    omega arith
