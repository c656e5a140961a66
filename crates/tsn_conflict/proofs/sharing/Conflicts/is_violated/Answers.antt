use Rattle.std.proofs.Common.{arith}
use Rattle.tsn_conflict.proofs.Meeting.{conflict_at, meets_from, overlaps_from}
use Rattle.tsn_conflict.proofs.sharing.Conflicts.is_violated.Goals as goal

pub returns : goal.returns
returns c = grind (arith, conflict_at, overlaps_from, meets_from)
