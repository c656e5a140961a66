use Rattle.std.proofs.Common.{◌≡◌, ◌+◌, true, false, Ok, get_or, take, refl, sym, ap, ◌∙◌, subst}
use Rattle.tsn_model.specs.Argument.{contradicts, left_open}
use Rattle.tsn_cert.specs.Fact.{fact_of, clause_of}
use Rattle.tsn_cert.specs.declared.fact.Fact.{Fact}
use Rattle.tsn_cert.specs.declared.fact.Fact.TheVariants.{From}
use Rattle.tsn_argue.specs.Motion.{FindsUnit}
use Rattle.tsn_check.specs.declared.wrong.Wrong.TheVariants.{Left}
use Rattle.tsn_argue.specs.State.{view_of}
use Rattle.tsn_argue.proofs.MotionLemmas.{unit_skip, unit_first, unit_two}
use Rattle.tsn_argue.proofs.motion.unit_of.Goals as goal
use Rattle.tsn_argue.proofs.motion.unit_of.Goals.{then-not-contradicts+else-is_some, else-not-contradicts}

abbrev blank : Fact
blank = From 0 0

pub loop-fact-init : goal.loop-fact-init
unfolding left_open
loop-fact-init c = refl

pub returns-then-is_some : goal.returns-then-is_some
returns-then-is_some c =
    let view = view_of c.args.view.now in
    let told : contradicts view (fact_of (get_or c.args.clause.now c.loop-fact.fact-index blank)) ≡ false =
    ap (contradicts view) (sym c.of.ensures) ∙ sym c.if-not-contradicts.ensures in (
      ap (λ n. Left c.args.number n) c.count_left-left.ensures,
      unit_two view c.args.clause.now c.loop-fact.fact-index blank c.loop-fact-test.true c.args.number c.loop-fact.left (sym c.if-is_some.ensures) told
          c.loop-fact.invariant,
    )

pub loop-fact-preserved : goal.loop-fact-preserved
loop-fact-preserved c =
    let view = view_of c.args.view.now in
    let index = c.loop-fact.fact-index in
    let facts = clause_of (take (index + 1) c.args.clause.now) in
    elim c.if-not-contradicts.branch [
      | then-not-contradicts+else-is_some w ↦
          let told : contradicts view (fact_of (get_or c.args.clause.now index blank)) ≡ false =
          ap (contradicts view) (sym c.of.ensures) ∙ sym w.if-not-contradicts.ensures in
          subst (λ left. FindsUnit view c.args.number facts (Ok left)) (sym w.left-is)
          (unit_first view c.args.clause.now index blank c.loop-fact-test.true c.args.number c.loop-fact.left (sym w.if-is_some.ensures) told
          c.loop-fact.invariant)
      | else-not-contradicts w ↦
          let told : contradicts view (fact_of (get_or c.args.clause.now index blank)) ≡ true =
          ap (contradicts view) (sym c.of.ensures) ∙ sym w.if-not-contradicts.ensures in
          subst (λ left. FindsUnit view c.args.number facts (Ok left)) (sym w.left-is)
          (unit_skip view c.args.clause.now index blank c.loop-fact-test.true c.args.number c.loop-fact.left told c.loop-fact.invariant)
    ]
