use Rattle.std.proofs.Common.{refl, arith}
use Rattle.std.proofs.lemmas.Grind.{common_steps}
use Rattle.tsn_cert.specs.Move.{move_of}
use Rattle.tsn_argue.specs.Motion.{clauses_of}
use Rattle.tsn_argue.proofs.Taking.{possible}
use Rattle.tsn_argue.proofs.TakingAll.{late_move, wrong_one}
use Rattle.tsn_argue.proofs.step.make.Goals as goal

pub returns-then-view-clause-taken : goal.returns-then-view-clause-taken
returns-then-view-clause-taken g c =
    (_, late_move c.args.view.now (clauses_of c.args.clauses.now) (move_of c.args.motion.now) c.requires.sound c.if-view.true, refl)

pub returns-in-Err-clause-taken : goal.returns-in-Err-clause-taken
returns-in-Err-clause-taken g c = (
  c.in-Err.wrong,
  wrong_one c.args.view.now (clauses_of c.args.clauses.now) (move_of c.args.motion.now) c.in-Err.wrong c.requires.sound c.if-view.false c.in-Err.ensures,
  refl,
)

pub make-requires-clause-made : goal.make-requires-clause-made
make-requires-clause-made g c = record {
  possible = possible c.args.view.now c.requires.sound c.if-view.false;
  allowed = c.in-Ok.ensures.0;
  shows = c.in-Ok.ensures.1;
}

pub judge-requires-clause-sound : goal.judge-requires-clause-sound
judge-requires-clause-sound c = grind (arith, common_steps) steps 2000000

pub judge-requires-clause-possible : goal.judge-requires-clause-possible
judge-requires-clause-possible c = grind (arith, common_steps) steps 2000000

pub judge-requires-clause-facts : goal.judge-requires-clause-facts
judge-requires-clause-facts c = grind (arith, common_steps) steps 2000000

pub make-requires-clause-sound : goal.make-requires-clause-sound
make-requires-clause-sound c = grind (arith, common_steps) steps 2000000

pub learn_all-requires-clause-sound : goal.learn_all-requires-clause-sound
learn_all-requires-clause-sound c = grind (arith, common_steps) steps 2000000

pub learn_all-requires-clause-facts : goal.learn_all-requires-clause-facts
learn_all-requires-clause-facts c = grind (arith, common_steps) steps 2000000
