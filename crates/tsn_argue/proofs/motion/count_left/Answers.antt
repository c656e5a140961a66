use Rattle.std.proofs.Common.{◌≡◌, true, false, get_or, refl, sym, ap, ◌∙◌, arith}
use Rattle.tsn_model.specs.Argument.{contradicts, left_open}
use Rattle.tsn_cert.specs.Fact.{fact_of}
use Rattle.tsn_cert.specs.declared.fact.Fact.{Fact}
use Rattle.tsn_cert.specs.declared.fact.Fact.TheVariants.{From}
use Rattle.tsn_argue.specs.State.{view_of}
use Rattle.tsn_argue.proofs.MotionLemmas.{count_skip, count_more}
use Rattle.tsn_argue.proofs.motion.count_left.Goals as goal
use Rattle.tsn_argue.proofs.motion.count_left.Goals.{then-not-contradicts, else-not-contradicts}

abbrev blank : Fact
blank = From 0 0

pub loop-fact-init : goal.loop-fact-init
unfolding left_open
loop-fact-init c = (refl, omega arith)

pub loop-fact-preserved : goal.loop-fact-preserved
loop-fact-preserved c =
    let view = view_of c.args.view.now in
    let index = c.loop-fact.fact-index in
    elim c.if-not-contradicts.branch [
      | then-not-contradicts w ↦
          let told : contradicts view (fact_of (get_or c.args.clause.now index blank)) ≡ false =
          ap (contradicts view) (sym c.of.ensures) ∙ sym w.if-not-contradicts.ensures in
          let more = count_more view c.args.clause.now index blank c.loop-fact-test.true told in
          let is = w.left-is in
          (omega (arith, more, is), omega (arith, is))
      | else-not-contradicts w ↦
          let told : contradicts view (fact_of (get_or c.args.clause.now index blank)) ≡ true =
          ap (contradicts view) (sym c.of.ensures) ∙ sym w.if-not-contradicts.ensures in
          let same = count_skip view c.args.clause.now index blank c.loop-fact-test.true told in
          let is = w.left-is in
          (omega (arith, same, is), omega (arith, is))
    ]
