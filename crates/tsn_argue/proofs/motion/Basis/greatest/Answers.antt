use Rattle.std.proofs.Common.{arith}
use Rattle.std.proofs.lemmas.Int.{ints}
use Rattle.tsn_argue.proofs.OpenViews.{open_high}
use Rattle.tsn_argue.proofs.motion.Basis.greatest.Goals as goal

pub returns-clause-low : goal.returns-clause-low
returns-clause-low c =
    let high = open_high c.args.self.now.view.now c.args.stream c.requires.sound c.requires.possible (omega arith) c.requires.there in
    omega (arith, ints)
