use Rattle.std.proofs.Common.{◌≡◌, map, take}
use Rattle.tsn_cert.specs.Argument.{step_of}
use Rattle.tsn_argue.specs.Faults.{first_known}
use Rattle.tsn_argue.specs.Told.{with_told, told_steps}
use Rattle.tsn_argue.specs.Steps.{goal_of}
use Rattle.tsn_argue.proofs.TakingAll.{Reached}
use Rattle.tsn_argue.proofs.step.Known.take_all.Given as goal

abbrev pub invariant-loop-number : goal.invariant-loop-number
invariant-loop-number g l = record {
  reached : Reached l.initial.self.view.timing.now (goal_of l.aim) l.self l.steps l.number;
  told : g.L.Observer.heard l.observer ≡ with_told (g.L.Observer.heard l.initial.observer)
      (told_steps l.initial.self.view.timing.now (goal_of l.aim) (first_known l.initial.self.view.timing.now (goal_of l.aim))
      (map step_of (take l.number l.steps)));
}
