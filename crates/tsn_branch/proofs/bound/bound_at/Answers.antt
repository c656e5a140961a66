use Rattle.std.proofs.Common.{subst}
use Rattle.tsn_conflict.specs.Outcome.{outcome_of}
use Rattle.tsn_conflict.specs.Right.{HasProof}
use Rattle.tsn_branch.proofs.Bounds.{lower_bound_by}
use Rattle.tsn_branch.proofs.bound.bound_at.Goals as goal

pub returns : goal.returns
returns c =
    let network = c.args.tables.timing.now in
    let outcome = outcome_of c.in_ok-look.look in
    lower_bound_by network c.args.tables.right_conflicts.formed outcome c.bound_of-bound.result (subst (λ p. HasProof network p outcome) c.in_ok-descent.ensures.path c.in_ok-look.ensures.proof) c.bound_of-bound.ensures
