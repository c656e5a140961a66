use Rattle.std.proofs.lemmas.List.Elements.{All-contains}
use Rattle.tsn_model.specs.Schedule.{IsConflict}
use Rattle.tsn_argue.proofs.motion.arc_in.Goals as goal

pub arc_at-requires : goal.arc_at-requires
arc_at-requires c =
    All-contains (λ decision. IsConflict c.args.view.now.timing.now decision.triple) c.args.view.now.orders.view c.args.decision
    c.requires.sound.view.conflicts c.if-has.ensures

pub returns-then-has : goal.returns-then-has
returns-then-has c =
    let arc = c.arc_at.ensures in
    record { has = c.if-has.ensures; is = arc.is; from = arc.from; to = arc.to; low = arc.small.low; high = arc.small.high }
