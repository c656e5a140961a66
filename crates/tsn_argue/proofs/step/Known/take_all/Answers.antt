use Rattle.std.proofs.Common.{◌≡◌, ◌⊎◌, List, map, inr, sym, subst, arith}
use Rattle.std.proofs.lemmas.List.{take_all}
use Rattle.std.proofs.lemmas.Grind.{common_steps}
use Rattle.tsn_cert.specs.declared.step.Step.{Step}
use Rattle.tsn_cert.specs.Argument.{step_of, steps_of}
use Rattle.tsn_check.specs.declared.argument.ArgumentFault.{ArgumentFault}
use Rattle.tsn_check.specs.declared.argument.ArgumentFault.TheVariants.{Memory}
use Rattle.tsn_argue.specs.Faults.{IsArgumentFault, first_known}
use Rattle.tsn_argue.specs.Told.{with_told, told_steps}
use Rattle.tsn_argue.specs.Steps.{goal_of, IsAim}
use Rattle.tsn_argue.proofs.Telling.{no_steps, more_steps}
use Rattle.tsn_argue.proofs.TakingAll.{reached_first, reached_more, reached_wrong, argued, unfinished}
use Rattle.tsn_argue.proofs.step.Known.take_all.Goals as goal

pub take-requires-clause-ready : goal.take-requires-clause-ready
take-requires-clause-ready g c = c.loop-number.invariant.reached.ready

pub take-requires-clause-aim : goal.take-requires-clause-aim
take-requires-clause-aim g c = subst (λ n. IsAim n c.args.aim.now) (sym c.loop-number.invariant.reached.same_network) c.requires.aim

pub judge_end-requires-clause-aim : goal.judge_end-requires-clause-aim
judge_end-requires-clause-aim g c = subst (λ n. IsAim n c.args.aim.now) (sym c.loop-number.invariant.reached.same_network) c.requires.aim

pub loop-number-init : goal.loop-number-init
loop-number-init g c = record {
  reached = reached_first c.args.self.now.view.timing.now (goal_of c.args.aim.now) c.args.self.now c.args.steps.now c.requires.first;
  told = no_steps c.args.self.now.view.timing.now (goal_of c.args.aim.now) (g.L.Observer.heard c.args.observer.now);
}

pub loop-number-preserved : goal.loop-number-preserved
loop-number-preserved g c = record {
  reached = reached_more c.args.self.now.view.timing.now (goal_of c.args.aim.now) c.loop-number.self c.take.new.self c.args.steps.now
      c.loop-number.number c.index-steps-number.result
      c.loop-number-test.true c.index-steps-number.is c.loop-number.invariant.reached c.in_default.ensures.taken;
  told = more_steps c.args.self.now.view.timing.now (goal_of c.args.aim.now) c.loop-number.self c.args.steps.now c.loop-number.number
      c.index-steps-number.result
      (g.L.Observer.heard c.args.observer.now) (g.L.Observer.heard c.loop-number.observer) (g.L.Observer.heard c.take.new.observer)
      c.loop-number-test.true c.index-steps-number.is c.loop-number.invariant.reached c.loop-number.invariant.told c.in_default.ensures.told;
}

pub returns-in-Err-clause-err : goal.returns-in-Err-clause-err
returns-in-Err-clause-err g c =
    subst (λ (f : ArgumentFault). (f ≡ Memory) ⊎ IsArgumentFault c.args.self.now.view.timing.now (goal_of c.args.aim.now) (steps_of c.args.steps.now) f)
    (sym c.at.ensures)
    (reached_wrong c.args.self.now.view.timing.now (goal_of c.args.aim.now) c.loop-number.self c.take.new.self c.args.steps.now
    c.loop-number.number c.index-steps-number.result c.in-Err.stop
    c.loop-number-test.true c.index-steps-number.is c.loop-number.invariant.reached c.in-Err.ensures.taken)

pub returns-in-None-clause-ok : goal.returns-in-None-clause-ok
returns-in-None-clause-ok g c =
    argued c.args.self.now.view.timing.now (goal_of c.args.aim.now) c.loop-number.self c.args.steps.now c.loop-number.number
    c.loop-number-test.false c.loop-number.invariant.reached c.in-None.ensures

pub returns-in-Some-clause-err : goal.returns-in-Some-clause-err
returns-in-Some-clause-err g c =
    inr (unfinished c.args.self.now.view.timing.now (goal_of c.args.aim.now) c.loop-number.self c.args.steps.now
    c.loop-number.number c.in-Some.left c.loop-number-test.false c.loop-number.invariant.reached c.in-Some.ensures)

pub returns-in-None-clause-told : goal.returns-in-None-clause-told
returns-in-None-clause-told g c =
    let network = c.args.self.now.view.timing.now in
    let aim = goal_of c.args.aim.now in
    subst (λ (xs : List Step). g.L.Observer.heard c.loop-number.observer
    ≡ with_told (g.L.Observer.heard c.args.observer.now) (told_steps network aim (first_known network aim) (map step_of xs)))
    (take_all c.loop-number.number c.args.steps.now c.loop-number-test.false) c.loop-number.invariant.told

pub returns-in-Err-clause-ok : goal.returns-in-Err-clause-ok
returns-in-Err-clause-ok c = grind (arith, common_steps) steps 2000000

pub returns-in-Err-clause-told : goal.returns-in-Err-clause-told
returns-in-Err-clause-told c = grind (arith, common_steps) steps 2000000

pub judge_end-requires-clause-sound : goal.judge_end-requires-clause-sound
judge_end-requires-clause-sound c = grind (arith, common_steps) steps 2000000

pub returns-in-None-clause-err : goal.returns-in-None-clause-err
returns-in-None-clause-err c = grind (arith, common_steps) steps 2000000

pub returns-in-Some-clause-ok : goal.returns-in-Some-clause-ok
returns-in-Some-clause-ok c = grind (arith, common_steps) steps 2000000

pub returns-in-Some-clause-told : goal.returns-in-Some-clause-told
returns-in-Some-clause-told c = grind (arith, common_steps) steps 2000000
