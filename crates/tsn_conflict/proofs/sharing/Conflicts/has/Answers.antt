use Rattle.std.proofs.Common.{subst}
use Rattle.tsn_conflict.specs.Kept.{AreConflictsOf}
use Rattle.tsn_conflict.proofs.Listed.{has_from}
use Rattle.tsn_conflict.proofs.sharing.Conflicts.has.Goals as goal

pub returns : goal.returns
returns c =
    let network = c.self.inside.timing in
    let is = subst (AreConflictsOf network) c.self.view_is c.self.invariant.of_network in
    has_from network c.args.self.now c.args.triple c.is_conflict.result is c.is_conflict.ensures
