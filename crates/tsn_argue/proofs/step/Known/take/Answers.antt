use Rattle.std.proofs.Common.{◌≡◌, List, length, refl, sym, ap, ◌∙◌, arith}
use Rattle.std.specs.Prelude.{Ok, Err}
use Rattle.std.proofs.lemmas.Result.{err_from_is_err_and}
use Rattle.std.proofs.lemmas.List.{length-map}
use Rattle.std.proofs.lemmas.Grind.{common_steps}
use Rattle.tsn_cert.specs.Fact.{fact_of, clause_of}
use Rattle.tsn_cert.specs.Argument.{step_of}
use Rattle.tsn_cert.specs.declared.fact.Fact.{Fact}
use Rattle.tsn_argue.specs.Motion.{clauses_of}
use Rattle.tsn_argue.specs.Steps.{goal_of}
use Rattle.tsn_argue.proofs.Telling.{taken_told}
use Rattle.tsn_argue.proofs.TakingAll.{taken_wrong, taken_short, taken_long, shown_by_of}
use Rattle.tsn_argue.proofs.step.Known.take.Goals as goal

pub returns-in_err-show-clause-taken : goal.returns-in_err-show-clause-taken
returns-in_err-show-clause-taken g c =
    let p = err_from_is_err_and c.from_residual.result c.from_residual.ensures.1 in
    rw (p.1, p.2) (taken_wrong (goal_of c.args.aim.now) c.args.self.now
    (record { view = c.show.new.view; clauses = c.args.self.now.clauses }) c.show.new.view (step_of c.args.step.now) _
    (shown_by_of c.args.self.now.view c.show.new.view _ _ (step_of c.args.step.now)
    (Err c.in_err-show.field-0.0) c.as_slice.ensures.value c.in_err-show.ensures.shows))

pub returns-in_ok-settle-clause-taken : goal.returns-in_ok-settle-clause-taken
returns-in_ok-settle-clause-taken g c =
    let shown = shown_by_of c.args.self.now.view c.show.new.view _ _ (step_of c.args.step.now) (Ok tt) c.as_slice.ensures.value c.in_ok-show.ensures.shows in
    let count : length (clause_of c.args.step.now.clause) ≡ length c.list.result.now = length-map c.args.step.now.clause fact_of
    ∙ ap (λ (xs : List Fact). length xs) (sym c.list.ensures) in
    taken_short (goal_of c.args.aim.now) c.args.self.now
    (record { view = c.show.new.view; clauses = c.args.self.now.clauses }) c.keep_clause.new.self (step_of c.args.step.now)
    c.settle.new.view c.keep.new.self c.requires.ready shown.0 shown.1 refl c.in_ok-keep_clause.ensures
    (let short = c.if-list-le1.true in omega arith) c.in_ok-settle.ensures
    c.keep.ensures.sound c.keep.ensures.network c.keep.ensures.base c.keep.ensures.view

pub returns-else-list-le1-clause-taken : goal.returns-else-list-le1-clause-taken
returns-else-list-le1-clause-taken g c =
    let shown = shown_by_of c.args.self.now.view c.show.new.view _ _ (step_of c.args.step.now) (Ok tt) c.as_slice.ensures.value c.in_ok-show.ensures.shows in
    let count : length (clause_of c.args.step.now.clause) ≡ length c.list.result.now = length-map c.args.step.now.clause fact_of
    ∙ ap (λ (xs : List Fact). length xs) (sym c.list.ensures) in
    taken_long (goal_of c.args.aim.now) c.args.self.now (record { view = c.show.new.view; clauses = c.args.self.now.clauses }) c.keep_clause.new.self
    (step_of c.args.step.now)
    c.requires.ready shown.0 shown.1 refl c.in_ok-keep_clause.ensures (let long = c.if-list-le1.false in omega arith)

pub returns-in_ok-settle-clause-told : goal.returns-in_ok-settle-clause-told
returns-in_ok-settle-clause-told g c =
    let shown = shown_by_of c.args.self.now.view c.show.new.view _ _ (step_of c.args.step.now) (Ok tt) c.as_slice.ensures.value c.in_ok-show.ensures.shows in
    taken_told c.args.self.now c.show.new.view _ (step_of c.args.step.now)
    (g.L.Observer.heard c.args.observer.now) (g.L.Observer.heard c.show.new.observer) (g.L.Observer.heard c.end.new.self)
    (ap clauses_of c.as_slice.ensures.value) shown.1 c.in_ok-show.ensures.told c.end.ensures

pub returns-else-list-le1-clause-told : goal.returns-else-list-le1-clause-told
returns-else-list-le1-clause-told g c =
    let shown = shown_by_of c.args.self.now.view c.show.new.view _ _ (step_of c.args.step.now) (Ok tt) c.as_slice.ensures.value c.in_ok-show.ensures.shows in
    taken_told c.args.self.now c.show.new.view _ (step_of c.args.step.now)
    (g.L.Observer.heard c.args.observer.now) (g.L.Observer.heard c.show.new.observer) (g.L.Observer.heard c.end.new.self)
    (ap clauses_of c.as_slice.ensures.value) shown.1 c.in_ok-show.ensures.told c.end.ensures

pub show-requires-clause-sound : goal.show-requires-clause-sound
show-requires-clause-sound c = grind (arith, common_steps) steps 2000000

pub show-requires-clause-ready : goal.show-requires-clause-ready
show-requires-clause-ready c = grind (arith, common_steps) steps 2000000

pub show-requires-clause-facts : goal.show-requires-clause-facts
show-requires-clause-facts c = grind (arith, common_steps) steps 2000000

pub keep_clause-requires-clause-sound : goal.keep_clause-requires-clause-sound
keep_clause-requires-clause-sound c = grind (arith, common_steps) steps 2000000

pub keep_clause-requires-clause-facts : goal.keep_clause-requires-clause-facts
keep_clause-requires-clause-facts c = grind (arith, common_steps) steps 2000000
