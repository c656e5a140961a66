use Rattle.std.proofs.Common.{◌≡◌, length}
use Rattle.tsn_replay.specs.Queue.{AreAllVisits}
use Rattle.tsn_replay.proofs.visits.visits_of.Given as goal

abbrev pub invariant-loop-link : goal.invariant-loop-link
invariant-loop-link l = record { visits : AreAllVisits l.network l.link l.visits.items; last : l.link-end ≡ length l.network.links }
