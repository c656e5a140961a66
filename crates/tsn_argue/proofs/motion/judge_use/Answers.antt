use Rattle.std.proofs.Common.{◌≡◌, ◌<◌, [], ◌∷◌, length, Ok, Some, None, sym, ap, subst, ◌∙◌, All, arith}
use Rattle.std.proofs.lemmas.List.{length-map}
use Rattle.std.proofs.lemmas.List.Elements.{All-contains}
use Rattle.std.proofs.lemmas.Grind.{common_steps}
use Rattle.tsn_model.specs.Argument.{Fact as ModelFact, IsFact, left_open, clause_at}
use Rattle.tsn_cert.specs.Fact.{clause_of, fact_of}
use Rattle.tsn_argue.specs.Motion.{facts_of, clauses_of, FindsUnit}
use Rattle.tsn_argue.specs.State.{view_of}
use Rattle.tsn_argue.proofs.MotionLemmas.{clause_there, clause_facts, use_shown, use_refutes, few_open}
use Rattle.tsn_argue.proofs.motion.judge_use.Goals as goal

pub unit_of-requires-clause-facts : goal.unit_of-requires-clause-facts
unit_of-requires-clause-facts c =
    rw c.list.ensures (clause_facts c.args.basis.now.view.now.timing.now c.args.basis.now.clauses.now c.args.number
    c.index-clauses-number.result c.if-number-clauses.false c.index-clauses-number.is c.requires.facts)

pub one-requires : goal.one-requires
one-requires c =
    let network = c.args.basis.now.view.now.timing.now in
    let clause = clause_of c.list.result.now in
    let unit : FindsUnit (view_of c.args.basis.now.view.now) c.args.number clause (Ok (Some c.in-Ok-Some.fact)) =
    subst (λ left. FindsUnit (view_of c.args.basis.now.view.now) c.args.number clause (Ok left)) c.in-Ok-Some.field-0-is c.in-Ok-Some.ensures in
    let facts : All (IsFact network) clause = rw c.list.ensures (clause_facts network c.args.basis.now.clauses.now c.args.number
    c.index-clauses-number.result c.if-number-clauses.false c.index-clauses-number.is c.requires.facts) in
    subst (IsFact network) (sym c.of.ensures) (All-contains (IsFact network) clause (fact_of c.in-Ok-Some.fact) facts unit.1)

pub returns-in-Ok-Some : goal.returns-in-Ok-Some
returns-in-Ok-Some c =
    let network = c.args.basis.now.view.now.timing.now in
    let view = view_of c.args.basis.now.view.now in
    let clauses = c.args.basis.now.clauses.now in
    let number = c.args.number in
    let is = c.one.ensures.shown ∙ ap (λ (fact : ModelFact). fact ∷ []) c.of.ensures in
    let at : clause_at (clauses_of clauses) number ≡ clause_of c.list.result.now =
    clause_there clauses number c.index-clauses-number.result c.if-number-clauses.false c.index-clauses-number.is ∙ ap clause_of (sym c.list.ensures) in
    let unit : FindsUnit view c.args.number (clause_of c.list.result.now) (Ok (Some c.in-Ok-Some.fact)) =
    subst (λ left. FindsUnit view c.args.number (clause_of c.list.result.now) (Ok left)) c.in-Ok-Some.field-0-is c.in-Ok-Some.ensures in
    let found : left_open view (clause_at (clauses_of clauses) number) ≡ fact_of c.in-Ok-Some.fact ∷ [] = ap (left_open view) at ∙ unit.0 in (
      (subst (λ n. number < n) (sym (length-map clauses (λ clause. clause_of clause.now))) c.if-number-clauses.false, few_open view _ _ found),
      use_shown network (clauses_of clauses) view number (facts_of c.one.result) (fact_of c.in-Ok-Some.fact) is found,
      c.one.ensures.facts,
    )

pub returns-in-Ok-None : goal.returns-in-Ok-None
returns-in-Ok-None c =
    let network = c.args.basis.now.view.now.timing.now in
    let view = view_of c.args.basis.now.view.now in
    let clauses = c.args.basis.now.clauses.now in
    let number = c.args.number in
    let is = c.one-in-Ok-None.ensures.shown ∙ ap (λ (fact : ModelFact). fact ∷ []) c.refuting.ensures.value in
    let at : clause_at (clauses_of clauses) number ≡ clause_of c.list.result.now =
    clause_there clauses number c.index-clauses-number.result c.if-number-clauses.false c.index-clauses-number.is ∙ ap clause_of (sym c.list.ensures) in
    let unit : FindsUnit view c.args.number (clause_of c.list.result.now) (Ok None) =
    subst (λ left. FindsUnit view c.args.number (clause_of c.list.result.now) (Ok left)) c.in-Ok-None.field-0-is c.in-Ok-None.ensures in
    let found : left_open view (clause_at (clauses_of clauses) number) ≡ [] = ap (left_open view) at ∙ unit in
    let none = ap length found in (
      (subst (λ n. number < n) (sym (length-map clauses (λ clause. clause_of clause.now))) c.if-number-clauses.false, omega (arith, none)),
      use_refutes network (clauses_of clauses) view number (facts_of c.one-in-Ok-None.result) is found,
      c.one-in-Ok-None.ensures.facts,
    )

pub returns-then-number-clauses : goal.returns-then-number-clauses
returns-then-number-clauses c = grind (arith, common_steps) steps 2000000

pub unit_of-requires-clause-sound : goal.unit_of-requires-clause-sound
unit_of-requires-clause-sound c = grind (arith, common_steps) steps 2000000

pub refuting-requires-clause-sound : goal.refuting-requires-clause-sound
refuting-requires-clause-sound c = grind (arith, common_steps) steps 2000000

pub refuting-requires-clause-possible : goal.refuting-requires-clause-possible
refuting-requires-clause-possible c = grind (arith, common_steps) steps 2000000

pub one-requires-in-Ok-None : goal.one-requires-in-Ok-None
one-requires-in-Ok-None c = grind (arith, common_steps) steps 2000000

pub returns-in-Err : goal.returns-in-Err
returns-in-Err c = grind (arith, common_steps) steps 2000000
