use Rattle.std.proofs.Common.{arith, subst}
use Rattle.std.proofs.lemmas.Bool.{false≢true}
use Rattle.tsn_cert.specs.Leaf.{bound_leaf, leaf_of}
use Rattle.tsn_cert.proofs.LeafLemmas.{has_bound}
use Rattle.tsn_check.specs.Plans.{offsets_in}
use Rattle.tsn_check.specs.Turns.{decisions}
use Rattle.tsn_check.specs.Steps.{FindsBound}
use Rattle.tsn_check.proofs.Verdicts.{span-small}
use Rattle.tsn_check.proofs.tree.judge.Goals as goal

pub returns-then-is_conflict : goal.returns-then-is_conflict
returns-then-is_conflict c = grind (arith, false≢true)

pub returns-in-Leaf : goal.returns-in-Leaf
returns-in-Leaf c =
    rw c.in-Leaf.is (c.is_shown.ensures c.args.claim.now.timing.now c.args.claim.now.target (offsets_in c.args.claim.now.plan.now) (decisions c.args.path.now) (leaf_of c.in-Leaf.leaf) c.judge_leaf.ensures)

pub returns-else-is_conflict : goal.returns-else-is_conflict
returns-else-is_conflict c = grind (arith, false≢true)

pub judge_bound-found-requires-clause-target : goal.judge_bound-found-requires-clause-target
judge_bound-found-requires-clause-target c = rw c.span_of.ensures (span-small c.args.claim.now.timing.now c.args.claim.now.plan.now c.requires.posed.formed c.requires.posed.right)

pub returns-in-Tie : goal.returns-in-Tie
returns-in-Tie c =
    let leaf = bound_leaf c.in-Tie.bound in
    rw c.in-Tie.is (c.judge_tie.ensures leaf c.args.claim.now.target (has_bound c.in-Tie.bound)
    (subst (λ span. FindsBound c.args.claim.now.timing.now span (decisions c.args.path.now) leaf c.judge_bound-found.result) c.span_of.ensures c.judge_bound-found.ensures))
