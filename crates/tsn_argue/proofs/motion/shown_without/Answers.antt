use Rattle.std.proofs.Common.{arith}
use mir.Syntax.{w128}
use Rattle.std.proofs.lemmas.Int.{ints, to_z-of_z}
use Rattle.tsn_check.specs.declared.wrong.Wrong.TheVariants.{Room}
use Rattle.tsn_argue.proofs.motion.shown_without.Goals as goal

pub returns-else-end-bound : goal.returns-else-end-bound
returns-else-end-bound c =
    let bound = to_z-of_z w128 c.args.bound c.ranges.bound in
    let end = to_z-of_z w128 c.args.end c.ranges.end in
    (λ i. Room c.args.link (bound i) (end i) c.args.of_others, omega (arith, ints, c.if-end-bound.false))
