use Rattle.std.proofs.Common.{codes, ap, arith}
use Rattle.std.proofs.lemmas.Result.{err_from_is_err_and}
use Rattle.serde_json.specs.View.{view}
use Rattle.tsn_cert.specs.Argument.{argument_of}
use Rattle.tsn_cert.specs.Fault.{named}
use Rattle.tsn_cert.specs.declared.fault.FileFault.TheVariants.{WrongShape}
use Rattle.tsn_codec.specs.Matter.{IsArgumentMisfit}
use Rattle.tsn_codec.proofs.JsonLemmas.{get_depth}
use Rattle.tsn_codec.proofs.Whys.{none_given, none_read, argument_other_goal, argument_other_goal_told, argument_no_time, argument_time_told, argument_made, argument_fault, argument_why}
use Rattle.tsn_codec.proofs.argument.argument_behind.Goals as goal

pub returns-in_err-goal-clause-argument : goal.returns-in_err-goal-clause-argument
returns-in_err-goal-clause-argument c =
    let p = err_from_is_err_and c.from_residual.result c.from_residual.ensures.1 in
    rw (p.1, p.2)
    (none_given (IsArgumentMisfit (view c.args.value.now)) _ (argument_of (view c.args.value.now)) c.in_err-goal.ensures.none c.in_err-goal.ensures.told)

pub returns-in_err-goal-clause-told : goal.returns-in_err-goal-clause-told
returns-in_err-goal-clause-told c =
    let p = err_from_is_err_and c.from_residual.result c.from_residual.ensures.1 in
    rw (p.1, p.2) c.in_err-goal.ensures.told

pub returns-in_err-goal-2-clause-argument : goal.returns-in_err-goal-2-clause-argument
returns-in_err-goal-2-clause-argument c =
    let p = err_from_is_err_and c.from_residual-in_err-goal-2.result c.from_residual-in_err-goal-2.ensures.1 in
    let m = c.in_ok-goal.ensures in
    let d = view c.args.value.now in
    let g = view c.in_ok-goal.goal.now in
    let s = view c.in_ok-goal.steps.now in
    let t = view c.in_ok-goal.target.now in
    let none = none_read _ _ _ c.in_err-goal-2.ensures.told c.in_err-goal-2.ensures.goal in
    rw (p.1, p.2, c.in_err-goal-2.ensures.told)
    (ap (named WrongShape) (argument_other_goal d g s t (c.requires.format, m.keys, m.goal, m.steps, m.target) none))

pub returns-in_err-goal-2-clause-told : goal.returns-in_err-goal-2-clause-told
returns-in_err-goal-2-clause-told c =
    let p = err_from_is_err_and c.from_residual-in_err-goal-2.result c.from_residual-in_err-goal-2.ensures.1 in
    let m = c.in_ok-goal.ensures in
    let d = view c.args.value.now in
    let g = view c.in_ok-goal.goal.now in
    let s = view c.in_ok-goal.steps.now in
    let t = view c.in_ok-goal.target.now in
    let none = none_read _ _ _ c.in_err-goal-2.ensures.told c.in_err-goal-2.ensures.goal in
    rw (p.1, p.2, c.in_err-goal-2.ensures.told) (argument_other_goal_told d g s t (c.requires.format, m.keys, m.goal, m.steps, m.target) none)

pub returns-in_err-target-clause-argument : goal.returns-in_err-target-clause-argument
returns-in_err-target-clause-argument c =
    let p = err_from_is_err_and c.from_residual-in_err-target.result c.from_residual-in_err-target.ensures.1 in
    let m = c.in_ok-goal.ensures in
    let d = view c.args.value.now in
    let g = view c.in_ok-goal.goal.now in
    let s = view c.in_ok-goal.steps.now in
    let t = view c.in_ok-goal.target.now in
    let none = none_read _ _ _ c.in_err-target.ensures.told c.in_err-target.ensures.number in
    rw (p.1, p.2, c.in_err-target.ensures.told)
    (ap (named WrongShape) (argument_no_time d g s t (c.requires.format, m.keys, m.goal, m.steps, m.target) none))

pub returns-in_err-target-clause-told : goal.returns-in_err-target-clause-told
returns-in_err-target-clause-told c =
    let p = err_from_is_err_and c.from_residual-in_err-target.result c.from_residual-in_err-target.ensures.1 in
    let m = c.in_ok-goal.ensures in
    let d = view c.args.value.now in
    let g = view c.in_ok-goal.goal.now in
    let s = view c.in_ok-goal.steps.now in
    let t = view c.in_ok-goal.target.now in
    let none = none_read _ _ _ c.in_err-target.ensures.told c.in_err-target.ensures.number in
    rw (p.1, p.2, c.in_err-target.ensures.told)
    (argument_time_told d g s t _ (c.requires.format, m.keys, m.goal, m.steps, m.target) c.in_ok-goal-2.ensures.goal none)

pub steps_from-requires : goal.steps_from-requires
steps_from-requires c =
    let inside = get_depth (codes "steps") (view c.args.value.now) (view c.in_ok-goal.steps.now) c.in_ok-goal.ensures.steps in
    omega (arith, inside, c.requires.deep)

pub returns-in-Ok-clause-argument : goal.returns-in-Ok-clause-argument
returns-in-Ok-clause-argument c =
    let m = c.in_ok-goal.ensures in
    let d = view c.args.value.now in
    let g = view c.in_ok-goal.goal.now in
    let s = view c.in_ok-goal.steps.now in
    let t = view c.in_ok-goal.target.now in
    argument_made d g s t _ _ _ (c.requires.format, m.keys, m.goal, m.steps, m.target) c.in_ok-goal-2.ensures.goal c.in_ok-target.ensures.number
    c.in-Ok.ensures.steps

pub returns-in-Err-clause-argument : goal.returns-in-Err-clause-argument
returns-in-Err-clause-argument c =
    let m = c.in_ok-goal.ensures in
    let d = view c.args.value.now in
    let g = view c.in_ok-goal.goal.now in
    let s = view c.in_ok-goal.steps.now in
    let t = view c.in_ok-goal.target.now in
    argument_fault d g s t c.in-Err.refused (c.requires.format, m.keys, m.goal, m.steps, m.target) c.in-Err.ensures.steps

pub returns-in-Err-clause-told : goal.returns-in-Err-clause-told
returns-in-Err-clause-told c =
    let m = c.in_ok-goal.ensures in
    let d = view c.args.value.now in
    let g = view c.in_ok-goal.goal.now in
    let s = view c.in_ok-goal.steps.now in
    let t = view c.in_ok-goal.target.now in
    argument_why d g s t _ _ c.in-Err.refused (c.requires.format, m.keys, m.goal, m.steps, m.target) c.in_ok-goal-2.ensures.goal
    c.in_ok-target.ensures.number c.in-Err.ensures.told
