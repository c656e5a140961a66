use Rattle.tsn_device.proofs.KnownLemmas.{Whole_at_the_end}
use Rattle.tsn_device.proofs.device.write_whole.Goals as goal

pub returns-clause-beginning : goal.returns-clause-beginning
returns-clause-beginning g c = Whole_at_the_end _ _ _ _ _ c.in_ok-write_all.ensures.whole c.end.ensures.kept
