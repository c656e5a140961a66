use Rattle.tsn_timing.proofs.Ending.{ends_heard}
use Rattle.tsn_laws.proofs.listeners.ends_are_heard.Goals as goal

pub returns : goal.returns
returns c = ends_heard
