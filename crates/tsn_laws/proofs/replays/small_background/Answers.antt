use Rattle.tsn_laws.proofs.SmallRuns as shown
use Rattle.tsn_laws.proofs.replays.small_background.Goals as goal

pub returns : goal.returns
returns c = shown.small_background
