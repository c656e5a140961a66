use Rattle.std.proofs.Common.{sym, ap, subst, ◌∙◌, arith}
use Rattle.std.proofs.lemmas.Int.{ints}
use Rattle.tsn_model.specs.Arcs.{arc_between, arc_on}
use Rattle.tsn_conflict.specs.Kept.{AreConflictsOf}
use Rattle.tsn_conflict.proofs.Listed.{conflict_kept, lag_bounds, arc_on-left, arc_on-right}
use Rattle.tsn_conflict.proofs.sharing.Conflicts.arc.Goals as goal

pub arc_between-requires-clause-first : goal.arc_between-requires-clause-first
arc_between-requires-clause-first c = λ network is. (conflict_kept network c.args.self.now c.args.triple is c.requires).left_uses

pub arc_between-requires-clause-second : goal.arc_between-requires-clause-second
arc_between-requires-clause-second c = λ network is. (conflict_kept network c.args.self.now c.args.triple is c.requires).right_uses

pub arc_between-requires-in-Right-clause-first : goal.arc_between-requires-in-Right-clause-first
arc_between-requires-in-Right-clause-first c = λ network is. (conflict_kept network c.args.self.now c.args.triple is c.requires).right_uses

pub arc_between-requires-in-Right-clause-second : goal.arc_between-requires-in-Right-clause-second
arc_between-requires-in-Right-clause-second c = λ network is. (conflict_kept network c.args.self.now c.args.triple is c.requires).left_uses

pub returns-in-Left-clause-value : goal.returns-in-Left-clause-value
returns-in-Left-clause-value c =
    λ network is.
    let bounds = lag_bounds network c.args.triple is.formed (conflict_kept network c.args.self.now c.args.triple is c.requires) in
    let above = bounds.0 in
    let below = bounds.1 in
    c.arc_between.ensures.value network is ∙ ap (arc_between network c.args.triple.left c.args.triple.right c.args.triple.link)
    (omega (arith, ints, above, below))
    ∙ (sym (arc_on-left network c.args.triple) ∙ ap (arc_on network c.args.triple) (sym c.in-Left.is))

pub returns-in-Right-clause-value : goal.returns-in-Right-clause-value
returns-in-Right-clause-value c =
    λ network is.
    let bounds = lag_bounds network c.args.triple is.formed (conflict_kept network c.args.self.now c.args.triple is c.requires) in
    let above = bounds.0 in
    let below = bounds.1 in
    c.arc_between-in-Right.ensures.value network is ∙ ap (arc_between network c.args.triple.right c.args.triple.left c.args.triple.link)
    (omega (arith, ints, above, below))
    ∙ (sym (arc_on-right network c.args.triple) ∙ ap (arc_on network c.args.triple) (sym c.in-Right.is))

pub arc_between-requires-clause-not_before : goal.arc_between-requires-clause-not_before
arc_between-requires-clause-not_before c =
    let network = c.self.inside.timing in
    let is = subst (AreConflictsOf network) c.self.view_is c.self.invariant.of_network in
    let bounds = lag_bounds network c.args.triple is.formed (conflict_kept network c.args.self.now c.args.triple is c.requires) in
    let above = bounds.0 in
    let below = bounds.1 in
    omega (arith, ints, above, below)

pub arc_between-requires-clause-not_after : goal.arc_between-requires-clause-not_after
arc_between-requires-clause-not_after c =
    let network = c.self.inside.timing in
    let is = subst (AreConflictsOf network) c.self.view_is c.self.invariant.of_network in
    let bounds = lag_bounds network c.args.triple is.formed (conflict_kept network c.args.self.now c.args.triple is c.requires) in
    let above = bounds.0 in
    let below = bounds.1 in
    omega (arith, ints, above, below)

pub overflow_sub-triple : goal.overflow_sub-triple
overflow_sub-triple c =
    let network = c.self.inside.timing in
    let is = subst (AreConflictsOf network) c.self.view_is c.self.invariant.of_network in
    let bounds = lag_bounds network c.args.triple is.formed (conflict_kept network c.args.self.now c.args.triple is c.requires) in
    let above = bounds.0 in
    let below = bounds.1 in
    omega (arith, ints, above, below)

pub arc_between-requires-in-Right-clause-not_before : goal.arc_between-requires-in-Right-clause-not_before
arc_between-requires-in-Right-clause-not_before c =
    let network = c.self.inside.timing in
    let is = subst (AreConflictsOf network) c.self.view_is c.self.invariant.of_network in
    let bounds = lag_bounds network c.args.triple is.formed (conflict_kept network c.args.self.now c.args.triple is c.requires) in
    let above = bounds.0 in
    let below = bounds.1 in
    omega (arith, ints, above, below)

pub arc_between-requires-in-Right-clause-not_after : goal.arc_between-requires-in-Right-clause-not_after
arc_between-requires-in-Right-clause-not_after c =
    let network = c.self.inside.timing in
    let is = subst (AreConflictsOf network) c.self.view_is c.self.invariant.of_network in
    let bounds = lag_bounds network c.args.triple is.formed (conflict_kept network c.args.self.now c.args.triple is c.requires) in
    let above = bounds.0 in
    let below = bounds.1 in
    omega (arith, ints, above, below)
