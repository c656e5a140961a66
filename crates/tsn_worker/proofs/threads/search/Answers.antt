use Rattle.tsn_worker.proofs.Gathering.{gathers}
use Rattle.tsn_worker.proofs.threads.search.Goals as goal

pub returns-in-Ok-clause-gathered : goal.returns-in-Ok-clause-gathered
returns-in-Ok-clause-gathered g c =
    gathers g.K.Named.names c.gather.result.0 c.gather.result.1 c.in-Ok.tellers.items c.gather.ensures.race c.gather.ensures.standings c.gather.ensures.book
    c.in-Ok.ensures c.gather.ensures.shares c.gather.ensures.word c.gather.ensures.sound c.gather.ensures.quiet
