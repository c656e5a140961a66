use Rattle.std.proofs.Common.{List, map, length, ap, ◌∙◌, inl, inr, arith}
use Rattle.std.specs.Prelude.{Ok, Err, ◌==◌}
use Rattle.std.proofs.lemmas.Result.{err_from_is_err_and}
use Rattle.std.proofs.lemmas.Grind.{common_steps}
use Rattle.tsn_cert.specs.Fact.{fact_of}
use Rattle.tsn_cert.specs.Move.{move_of}
use Rattle.tsn_cert.specs.Argument.{step_of}
use Rattle.tsn_cert.specs.declared.fact.Fact.{Fact}
use Rattle.tsn_argue.specs.Motion.{clauses_of}
use Rattle.tsn_argue.proofs.Taking.{wrong_fact_step, right_step, failed_step}
use Rattle.tsn_argue.proofs.Telling.{shown_told}
use Rattle.tsn_argue.proofs.TakingAll.{show_moves, none_in, some_in, moves_of, supposed_of}
use Rattle.tsn_argue.proofs.step.show.Goals as goal

pub returns-in_err-judge_facts-clause-shows : goal.returns-in_err-judge_facts-clause-shows
returns-in_err-judge_facts-clause-shows g c =
    let p = err_from_is_err_and c.from_residual.result c.from_residual.ensures.1 in
    rw (p.1, p.2) (wrong_fact_step c.args.view.now c.requires.sound c.requires.ready (clauses_of c.args.clauses.now) (step_of c.args.step.now) _ c.if-view.false
    (rw c.list-clause.ensures at c.in_err-judge_facts.ensures))

pub returns-in_err-make_all-clause-shows : goal.returns-in_err-make_all-clause-shows
returns-in_err-make_all-clause-shows g c =
    let p = err_from_is_err_and c.from_residual-in_err-make_all.result c.from_residual-in_err-make_all.ensures.1 in
    rw (p.1, p.2) (show_moves c.args.view.now c.suppose.new.view c.make_all.new.view c.requires.sound c.requires.ready
    (clauses_of c.args.clauses.now) (step_of c.args.step.now) _ c.if-view.false
    (rw c.list-clause.ensures at c.in_ok-judge_facts.ensures)
    (supposed_of c.args.view.now c.suppose.new.view _ _ c.list-clause.ensures c.in_ok-suppose.ensures)
    (moves_of c.suppose.new.view c.make_all.new.view (clauses_of c.args.clauses.now) _ _
    (Err c.in_err-make_all.field-0.0) c.list.ensures c.in_err-make_all.ensures.taken))

pub returns-then-is_empty-clause-shows : goal.returns-then-is_empty-clause-shows
returns-then-is_empty-clause-shows g c =
    let supposed = supposed_of c.args.view.now c.suppose.new.view _ _ c.list-clause.ensures c.in_ok-suppose.ensures in
    let made = moves_of c.suppose.new.view c.make_all.new.view (clauses_of c.args.clauses.now) _ _ (Ok tt) c.list.ensures c.in_ok-make_all.ensures.taken in
    right_step c.args.view.now c.requires.sound c.requires.ready (clauses_of c.args.clauses.now)
    (step_of c.args.step.now) c.suppose.new.view c.make_all.new.view c.if-view.false
    (rw c.list-clause.ensures at c.in_ok-judge_facts.ensures) supposed made.0 made.1
    (inr (none_in fact_of c.args.step.now.clause (c.if-is_empty.ensures ∙ ap (λ (xs : List Fact). length xs == 0) c.list-clause.ensures)))

pub returns-then-view-2-clause-shows : goal.returns-then-view-2-clause-shows
returns-then-view-2-clause-shows g c =
    let supposed = supposed_of c.args.view.now c.suppose.new.view _ _ c.list-clause.ensures c.in_ok-suppose.ensures in
    let made = moves_of c.suppose.new.view c.make_all.new.view (clauses_of c.args.clauses.now) _ _ (Ok tt) c.list.ensures c.in_ok-make_all.ensures.taken in
    right_step c.args.view.now c.requires.sound c.requires.ready (clauses_of c.args.clauses.now)
    (step_of c.args.step.now) c.suppose.new.view c.make_all.new.view c.if-view.false
    (rw c.list-clause.ensures at c.in_ok-judge_facts.ensures) supposed made.0 made.1 (inl c.if-view-2.true)

pub returns-else-view-2-clause-shows : goal.returns-else-view-2-clause-shows
returns-else-view-2-clause-shows g c =
    let supposed = supposed_of c.args.view.now c.suppose.new.view _ _ c.list-clause.ensures c.in_ok-suppose.ensures in
    let made = moves_of c.suppose.new.view c.make_all.new.view (clauses_of c.args.clauses.now) _ _ (Ok tt) c.list.ensures c.in_ok-make_all.ensures.taken in
    failed_step c.args.view.now c.requires.sound c.requires.ready (clauses_of c.args.clauses.now)
    (step_of c.args.step.now) c.suppose.new.view c.make_all.new.view c.if-view.false
    (rw c.list-clause.ensures at c.in_ok-judge_facts.ensures) supposed made.0 made.1 c.if-view-2.false
    (some_in fact_of c.args.step.now.clause (c.if-is_empty.ensures ∙ ap (λ (xs : List Fact). length xs == 0) c.list-clause.ensures))

pub returns-then-is_empty-clause-told : goal.returns-then-is_empty-clause-told
returns-then-is_empty-clause-told g c =
    shown_told c.args.view.now c.suppose.new.view (clauses_of c.args.clauses.now) (step_of c.args.step.now)
    (g.L.Observer.heard c.args.observer.now) (g.L.Observer.heard c.begin.new.self) (g.L.Observer.heard c.make_all.new.observer) _ c.requires.ready
    (supposed_of c.args.view.now c.suppose.new.view _ _ c.list-clause.ensures c.in_ok-suppose.ensures) (ap (map move_of) c.list.ensures)
    c.begin.ensures c.in_ok-make_all.ensures.told

pub returns-then-view-2-clause-told : goal.returns-then-view-2-clause-told
returns-then-view-2-clause-told g c =
    shown_told c.args.view.now c.suppose.new.view (clauses_of c.args.clauses.now) (step_of c.args.step.now)
    (g.L.Observer.heard c.args.observer.now) (g.L.Observer.heard c.begin.new.self) (g.L.Observer.heard c.make_all.new.observer) _ c.requires.ready
    (supposed_of c.args.view.now c.suppose.new.view _ _ c.list-clause.ensures c.in_ok-suppose.ensures) (ap (map move_of) c.list.ensures)
    c.begin.ensures c.in_ok-make_all.ensures.told

pub begin-requires-clause-sound : goal.begin-requires-clause-sound
begin-requires-clause-sound c = grind (arith, common_steps) steps 2000000

pub begin-requires-clause-even : goal.begin-requires-clause-even
begin-requires-clause-even c = grind (arith, common_steps) steps 2000000

pub begin-requires-clause-facts : goal.begin-requires-clause-facts
begin-requires-clause-facts c = grind (arith, common_steps) steps 2000000

pub suppose-requires-clause-sound : goal.suppose-requires-clause-sound
suppose-requires-clause-sound c = grind (arith, common_steps) steps 2000000

pub suppose-requires-clause-facts : goal.suppose-requires-clause-facts
suppose-requires-clause-facts c = grind (arith, common_steps) steps 2000000
