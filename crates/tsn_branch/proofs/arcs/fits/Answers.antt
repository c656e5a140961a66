use Rattle.std.proofs.Common.{pos, Contains, get_or, take, refl, sym, ◌∙◌, subst, arith}
use Rattle.std.proofs.lemmas.List.{take_all, take_more}
use Rattle.std.proofs.lemmas.List.Elements.{All-push}
use Rattle.tsn_model.specs.declared.Decision.{Decision}
use Rattle.tsn_model.specs.declared.Side.TheVariants.{Left}
use Rattle.tsn_conflict.specs.Path.{Fits}
use Rattle.tsn_branch.proofs.arcs.fits.Goals as goal

abbrev no_decision : Decision
no_decision = record { triple = record { left = 0; right = 0; link = 0; lag = pos 0 }; side = Left }

pub loop-decision-preserved : goal.loop-decision-preserved
loop-decision-preserved c =
    let triples = c.args.conflicts.now.triples in
    let path = c.path-path.result.now in
    let index = c.loop-decision.decision-index in
    subst (Fits triples) (sym (take_more path index no_decision c.loop-decision-test.true))
    (All-push (λ (d : Decision). Contains triples d.triple) (take index path) (get_or path index no_decision) c.loop-decision.invariant
    (c.has.ensures.0 c.if-not-has.false))

pub returns-then-not-has : goal.returns-then-not-has
returns-then-not-has c =
    let triples = c.args.conflicts.now.triples in
    let path = c.path-path.result.now in
    let index = c.loop-decision.decision-index in (
      λ passes. cc passes,
      λ fits. sym c.if-not-has.true ∙ c.has.ensures.1 (subst (Fits triples) (sym c.path-path.ensures.value) fits index no_decision c.loop-decision-test.true),
    )

pub returns : goal.returns
returns c =
    let past = c.loop-decision-test.false in (
      λ passes. subst (Fits c.args.conflicts.now.triples)
          (take_all c.loop-decision.decision-index c.path-path.result.now (omega arith) ∙ c.path-path.ensures.value) c.loop-decision.invariant,
      λ fits. refl,
    )
