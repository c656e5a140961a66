use Rattle.tsn_model.specs.Arcs.{arc_of}
use Rattle.tsn_model.proofs.Decisions.{arc_on-counted}
use Rattle.tsn_check.proofs.path.turn_to.Goals as goal

pub returns-clause-turn : goal.returns-clause-turn
unfolding arc_of
returns-clause-turn c =
    record {
      conflict = c.requires;
      same_arc = c.arc_of.ensures.arc;
      begins = rw c.arc_of.ensures.arc (arc_on-counted c.args.timing.now c.args.triple c.args.side c.requires);
      small = c.arc_of.ensures.small;
    }
