use Rattle.std.proofs.Common.{◌+◌, sym, subst}
use Rattle.tsn_replay.specs.Queue.{AreAllVisits}
use Rattle.tsn_replay.proofs.Visited.{all_visits_more}
use Rattle.tsn_replay.proofs.visits.visits_of.Goals as goal

pub loop-link-preserved : goal.loop-link-preserved
loop-link-preserved c = record {
  visits = subst (AreAllVisits c.args.network.now (c.loop-link.link + 1)) (sym c.in_ok-push.ensures.items)
      (all_visits_more c.args.network.now c.loop-link.link c.loop-link.visits.items c.in_ok-visits_on.field-0
      c.loop-link.invariant.visits c.in_ok-visits_on.ensures);
  last = c.loop-link.invariant.last;
}
