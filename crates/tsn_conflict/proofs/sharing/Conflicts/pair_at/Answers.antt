use Rattle.std.proofs.Common.{subst}
use Rattle.tsn_conflict.specs.Kept.{AreConflictsOf}
use Rattle.tsn_conflict.proofs.Meeting.{in_uses, conflict_at}
use Rattle.tsn_conflict.proofs.sharing.Conflicts.pair_at.Goals as goal

pub returns-clause-within : goal.returns-clause-within
returns-clause-within c =
    let network = c.self.inside.timing in
    let is = subst (AreConflictsOf network) c.self.view_is c.self.invariant.of_network in
    in_uses network c.args.self.now is _ (conflict_at network c.args.self.now is c.args.number c.requires)
