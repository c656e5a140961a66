use Rattle.std.proofs.lemmas.Result.{err_from_is_err_and}
use Rattle.std.proofs.Common.{arith}
use Rattle.std.proofs.lemmas.Grind.{common_steps}
use Rattle.tsn_argue.specs.Motion.{clauses_of}
use Rattle.tsn_argue.specs.State.{view_of}
use Rattle.tsn_argue.proofs.Telling.{no_moves, more_moves}
use Rattle.tsn_argue.proofs.TakingAll.{none_made, moves_wrong, moves_more}
use Rattle.tsn_argue.proofs.step.make_all.Goals as goal

pub loop-number-init : goal.loop-number-init
loop-number-init g c = record {
  allowed = tt;
  becomes = none_made c.args.view.now (clauses_of c.args.clauses.now) c.requires.sound;
  told = no_moves c.args.view.now.timing.now (clauses_of c.args.clauses.now) (view_of c.args.view.now) (g.L.Observer.heard c.args.observer.now);
}

pub returns-in_err-make-clause-taken : goal.returns-in_err-make-clause-taken
returns-in_err-make-clause-taken g c =
    let p = err_from_is_err_and c.from_residual.result c.from_residual.ensures.1 in
    rw (p.1, p.2) (moves_wrong c.args.view.now c.loop-number.view
    (clauses_of c.args.clauses.now) c.args.moves.now c.loop-number.number c.index-moves-number.result
    c.make.new.view c.make.new.view _ c.loop-number-test.true c.index-moves-number.is c.loop-number.invariant.allowed
    c.loop-number.invariant.becomes c.in_err-make.ensures.taken)

pub loop-number-preserved : goal.loop-number-preserved
loop-number-preserved g c =
    let more = moves_more c.args.view.now c.loop-number.view
    (clauses_of c.args.clauses.now) c.args.moves.now c.loop-number.number c.index-moves-number.result c.make.new.view
    c.loop-number-test.true c.index-moves-number.is c.loop-number.invariant.allowed c.loop-number.invariant.becomes c.in_ok-make.ensures.taken in
    record {
      allowed = more.0;
      becomes = more.1;
      told = more_moves c.args.view.now c.loop-number.view (clauses_of c.args.clauses.now) c.args.moves.now c.loop-number.number c.index-moves-number.result
          (g.L.Observer.heard c.args.observer.now) (g.L.Observer.heard c.loop-number.observer) (g.L.Observer.heard c.make.new.observer)
          c.loop-number-test.true c.index-moves-number.is c.loop-number.invariant.becomes c.loop-number.invariant.told c.in_ok-make.ensures.told;
    }

pub make-requires-clause-sound : goal.make-requires-clause-sound
make-requires-clause-sound c = grind (arith, common_steps) steps 2000000

pub make-requires-clause-facts : goal.make-requires-clause-facts
make-requires-clause-facts c = grind (arith, common_steps) steps 2000000

pub returns-clause-taken : goal.returns-clause-taken
returns-clause-taken c = grind (arith, common_steps) steps 2000000

pub returns-clause-told : goal.returns-clause-told
returns-clause-told c = grind (arith, common_steps) steps 2000000
