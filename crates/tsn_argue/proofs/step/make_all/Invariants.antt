use Rattle.std.proofs.Common.{◌≡◌, map, take}
use Rattle.tsn_model.specs.Argument.{narrowed, AreAllowed}
use Rattle.tsn_cert.specs.Move.{move_of}
use Rattle.tsn_argue.specs.State.{view_of, Becomes}
use Rattle.tsn_argue.specs.Motion.{clauses_of}
use Rattle.tsn_argue.specs.Told.{with_told, told_moves}
use Rattle.tsn_argue.proofs.step.make_all.Given as goal

abbrev pub invariant-loop-number : goal.invariant-loop-number
invariant-loop-number g l = record {
  allowed : AreAllowed l.initial.view.timing.now (clauses_of l.clauses) (view_of l.initial.view) (map move_of (take l.number l.moves));
  becomes : Becomes l.initial.view l.view (narrowed l.initial.view.timing.now (clauses_of l.clauses) (view_of l.initial.view)
      (map move_of (take l.number l.moves)));
  told : g.L.Observer.heard l.observer ≡ with_told (g.L.Observer.heard l.initial.observer)
      (told_moves l.initial.view.timing.now (clauses_of l.clauses) (view_of l.initial.view) (map move_of (take l.number l.moves)));
}
