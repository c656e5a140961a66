use Rattle.std.proofs.Common.{◌≡◌, ◌∙◌, take, None, option_copied, refl, sym, ap, subst, arith}
use Rattle.std.specs.Prelude.{MatchOption}
use Rattle.tsn_model.specs.Schedule.{common}
use Rattle.tsn_model.specs.Certificate.{tie_node}
use Rattle.tsn_timing.specs.Solution.{IsSolved}
use Rattle.tsn_model.specs.Order.{node_of}
use Rattle.tsn_cert.specs.Leaf.{bound_leaf}
use Rattle.tsn_conflict.specs.Outcome.{outcome_of}
use Rattle.tsn_book.specs.Book.{planned, HasTie}
use Rattle.tsn_book.proofs.Answering.{ok_as}
use Rattle.tsn_book.proofs.Tying.{solved_even, solved_apart, solved_alone, tied_even, tied_apart}
use Rattle.tsn_book.proofs.spelling.node_from.Goals as goal

pub returns-in-Split : goal.returns-in-Split
unfolding node_of
returns-in-Split c = ap (λ l. node_of c.args.network.now (planned (option_copied c.args.plan)) (outcome_of l)) (sym c.in-Split.is)

pub returns-then-flowspan : goal.returns-then-flowspan
returns-then-flowspan c =
    let network = c.args.network.now in
    let best = c.in-Some.best.now in
    let found = c.in-Solved in
    let is_solved = subst (λ p. MatchOption (option_copied p) (Unit {0}) (IsSolved network)) c.in-Some.is c.requires.plan in
    let alike : c.common-count.result ≡ common found.solved.offsets best.offsets =
    c.common-count.ensures.count ∙ ap (λ os. common os c.offsets-then-flowspan.result.now) (c.offsets.ensures ∙ c.valid.ensures)
    ∙ ap (common found.solved.offsets) (c.offsets-then-flowspan.ensures ∙ c.valid-then-flowspan.ensures) in
    rw (c.in-Solved.is, c.in-Some.is)
    (ok_as c.tie_from.result
    (λ node given. given ∙ ap (tie_node (bound_leaf found.leaf)) (c.truncate.ensures ∙ ap (λ n. take n found.chains) (omega (arith, alike)))
    ∙ sym (solved_even network best.offsets best.flowspan is_solved.1 found.solved.offsets found.solved.flowspan (bound_leaf found.leaf) found.chains
    (omega (arith, c.flowspan.ensures, c.if-flowspan.true, c.flowspan-in-Some.ensures)))) c.tie_from.ensures)

pub returns-in-Some : goal.returns-in-Some
returns-in-Some c =
    let network = c.args.network.now in
    let best = c.in-Some.best.now in
    let found = c.in-Solved in
    let is_solved = subst (λ p. MatchOption (option_copied p) (Unit {0}) (IsSolved network)) c.in-Some.is c.requires.plan in
    rw (c.in-Solved.is, c.in-Some.is)
    (sym (solved_apart network best.offsets best.flowspan is_solved.1 found.solved.offsets found.solved.flowspan (bound_leaf found.leaf) found.chains
    (λ same. absurd (omega (arith, same, c.flowspan.ensures, c.if-flowspan.false, c.flowspan-in-Some.ensures)))))

pub returns-in-Solved : goal.returns-in-Solved
returns-in-Solved c =
    let found = c.in-Solved in
    let tie = subst (λ p. HasTie c.args.network.now (option_copied p) (outcome_of c.args.look)) c.in-None.is c.requires.tie in
    let alone = subst (λ l. HasTie c.args.network.now None (outcome_of l)) c.in-Solved.is tie in
    rw (c.in-Solved.is, c.in-None.is)
    (sym (solved_alone c.args.network.now found.solved.offsets found.solved.flowspan (bound_leaf found.leaf) found.chains (alone.1 refl)))

pub returns-in-Pruned : goal.returns-in-Pruned
unfolding node_of
returns-in-Pruned c = ap (λ l. node_of c.args.network.now (planned (option_copied c.args.plan)) (outcome_of l)) (sym c.in-Pruned.is)

pub returns-then-bound-flowspan : goal.returns-then-bound-flowspan
returns-then-bound-flowspan c =
    let network = c.args.network.now in
    let best = c.in-Some-plan.best.now in
    let found = c.in-Tied in
    let is_solved = subst (λ p. MatchOption (option_copied p) (Unit {0}) (IsSolved network)) c.in-Some-plan.is c.requires.plan in
    rw (c.in-Tied.is, c.in-Some-plan.is)
    (ok_as c.tie_from-then-bound-flowspan.result
    (λ node given. given ∙ sym (tied_even network best.offsets best.flowspan is_solved.1 found.bound (bound_leaf found.leaf) found.chains
    (omega (arith, c.if-bound-flowspan.true, c.flowspan-in-Some-plan.ensures))))
    c.tie_from-then-bound-flowspan.ensures)

pub returns-in-Some-plan : goal.returns-in-Some-plan
returns-in-Some-plan c =
    let network = c.args.network.now in
    let best = c.in-Some-plan.best.now in
    let found = c.in-Tied in
    let is_solved = subst (λ p. MatchOption (option_copied p) (Unit {0}) (IsSolved network)) c.in-Some-plan.is c.requires.plan in
    rw (c.in-Tied.is, c.in-Some-plan.is)
    (sym (tied_apart network best.offsets best.flowspan is_solved.1 found.bound (bound_leaf found.leaf) found.chains
    (λ same. absurd (omega (arith, same, c.if-bound-flowspan.false, c.flowspan-in-Some-plan.ensures)))))

pub returns : goal.returns
unfolding node_of
returns c = ap (λ l. node_of c.args.network.now (planned (option_copied c.args.plan)) (outcome_of l)) (sym c.in-Refuted.is)
