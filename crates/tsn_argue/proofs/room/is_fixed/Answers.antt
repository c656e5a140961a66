use Rattle.std.proofs.Common.{arith}
use Rattle.std.proofs.lemmas.Int.{ints}
use Rattle.tsn_model.proofs.Routes.{UsesLink-counted}
use Rattle.tsn_argue.proofs.room.is_fixed.Goals as goal

pub at-high-requires : goal.at-high-requires
at-high-requires c = omega (arith, c.requires.sound.view.highs, UsesLink-counted c.args.view.now.timing.now c.args.frame.stream c.args.link c.requires.on.uses)

pub at-low-requires : goal.at-low-requires
at-low-requires c = omega (arith, c.requires.sound.view.lows, UsesLink-counted c.args.view.now.timing.now c.args.frame.stream c.args.link c.requires.on.uses)
