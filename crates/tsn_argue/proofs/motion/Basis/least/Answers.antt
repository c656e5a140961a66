use Rattle.std.proofs.Common.{arith}
use Rattle.std.proofs.lemmas.Int.{ints}
use Rattle.tsn_argue.proofs.OpenViews.{open_low}
use Rattle.tsn_argue.proofs.motion.Basis.least.Goals as goal

pub returns-clause-low : goal.returns-clause-low
returns-clause-low c =
    let low = open_low c.args.self.now.view.now c.args.stream c.requires.sound c.requires.possible (omega arith) c.requires.there in
    omega (arith, ints)

pub returns-clause-high : goal.returns-clause-high
returns-clause-high c =
    let low = open_low c.args.self.now.view.now c.args.stream c.requires.sound c.requires.possible (omega arith) c.requires.there in
    omega (arith, ints)
