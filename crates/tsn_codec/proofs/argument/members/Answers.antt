use Rattle.std.proofs.Common.{◌≡◌, true, false, codes, sym, ◌∙◌, arith}
use Rattle.std.proofs.lemmas.Result.{err_from_is_err_and}
use Rattle.serde_json.specs.View.{view}
use Rattle.tsn_codec.proofs.Counted.{argument_apart}
use Rattle.tsn_codec.proofs.Whys.{has_members, argument_no_goal, argument_goal_told, argument_no_steps, argument_steps_told, argument_no_target, argument_target_told, argument_all, argument_other_count, argument_unknown}
use Rattle.tsn_codec.proofs.argument.members.Goals as goal

pub returns-in_err-goal-clause-none : goal.returns-in_err-goal-clause-none
returns-in_err-goal-clause-none c =
    let p = err_from_is_err_and c.from_residual.result c.from_residual.ensures.1 in
    rw p.1 (argument_no_goal (view c.args.value.now) c.in_err-goal.ensures.0)

pub returns-in_err-goal-clause-told : goal.returns-in_err-goal-clause-told
returns-in_err-goal-clause-told c =
    let p = err_from_is_err_and c.from_residual.result c.from_residual.ensures.1 in
    rw (p.1, p.2, c.in_err-goal.ensures.1) (argument_goal_told (view c.args.value.now) c.requires c.in_err-goal.ensures.0)

pub returns-in_err-steps-clause-none : goal.returns-in_err-steps-clause-none
returns-in_err-steps-clause-none c =
    let p = err_from_is_err_and c.from_residual-in_err-steps.result c.from_residual-in_err-steps.ensures.1 in
    rw p.1 (argument_no_steps (view c.args.value.now) c.in_err-steps.ensures.0)

pub returns-in_err-steps-clause-told : goal.returns-in_err-steps-clause-told
returns-in_err-steps-clause-told c =
    let p = err_from_is_err_and c.from_residual-in_err-steps.result c.from_residual-in_err-steps.ensures.1 in
    rw (p.1, p.2, c.in_err-steps.ensures.1)
    (argument_steps_told (view c.args.value.now) (view c.in_ok-goal.goal.now) c.requires c.in_ok-goal.ensures c.in_err-steps.ensures.0)

pub returns-in_err-target-clause-none : goal.returns-in_err-target-clause-none
returns-in_err-target-clause-none c =
    let p = err_from_is_err_and c.from_residual-in_err-target.result c.from_residual-in_err-target.ensures.1 in
    rw p.1 (argument_no_target (view c.args.value.now) c.in_err-target.ensures.0)

pub returns-in_err-target-clause-told : goal.returns-in_err-target-clause-told
returns-in_err-target-clause-told c =
    let p = err_from_is_err_and c.from_residual-in_err-target.result c.from_residual-in_err-target.ensures.1 in
    rw (p.1, p.2, c.in_err-target.ensures.1)
    (argument_target_told (view c.args.value.now) (view c.in_ok-goal.goal.now) (view c.in_ok-steps.steps.now) c.requires c.in_ok-goal.ensures
    c.in_ok-steps.ensures c.in_err-target.ensures.0)

pub unknown_key-requires-clause-distinct : goal.unknown_key-requires-clause-distinct
unknown_key-requires-clause-distinct c = argument_apart

pub unknown_key-requires-clause-all : goal.unknown_key-requires-clause-all
unknown_key-requires-clause-all c = argument_all (view c.args.value.now) _ _ _ c.requires c.in_ok-goal.ensures c.in_ok-steps.ensures c.in_ok-target.ensures

pub unknown_key-requires-clause-object : goal.unknown_key-requires-clause-object
unknown_key-requires-clause-object c =
    has_members (codes "goal") (view c.args.value.now) (view c.in_ok-goal.goal.now) c.in_ok-goal.ensures

pub unknown_key-requires-clause-count : goal.unknown_key-requires-clause-count
unknown_key-requires-clause-count c =
    let other : c.is_object_of.result ≡ false = grind arith in
    sym c.is_object_of.ensures ∙ other

pub returns-then-not-is_object_of-clause-none : goal.returns-then-not-is_object_of-clause-none
returns-then-not-is_object_of-clause-none c =
    let other : c.is_object_of.result ≡ false = grind arith in
    argument_other_count (view c.args.value.now) (sym c.is_object_of.ensures ∙ other)

pub returns-then-not-is_object_of-clause-told : goal.returns-then-not-is_object_of-clause-told
returns-then-not-is_object_of-clause-told c =
    argument_unknown (view c.args.value.now) c.requires
    (argument_all (view c.args.value.now) _ _ _ c.requires c.in_ok-goal.ensures c.in_ok-steps.ensures c.in_ok-target.ensures)
    c.unknown_key.result c.unknown_key.ensures

pub returns-clause-keys : goal.returns-clause-keys
returns-clause-keys c =
    let just : c.is_object_of.result ≡ true = grind arith in
    (argument_all (view c.args.value.now) _ _ _ c.requires c.in_ok-goal.ensures c.in_ok-steps.ensures c.in_ok-target.ensures, sym c.is_object_of.ensures ∙ just)
