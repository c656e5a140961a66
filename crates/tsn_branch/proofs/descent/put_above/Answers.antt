use Rattle.std.proofs.Common.{pos, ◌≡◌, ◌<◌, ◌-◌, List, [], ◌∷◌, ◌++◌, length, take, get_or, sym, ap, ◌∙◌, subst, arith}
use Rattle.std.specs.Prelude.{Contains, IfNone, IfSome}
use Rattle.std.proofs.lemmas.List.Elements.{All-get_or}
use Rattle.std.proofs.lemmas.Grind.{common_steps}
use Rattle.std.proofs.lemmas.Result.{err_from_is_err_and}
use Rattle.tsn_model.specs.declared.Arc.{Arc}
use Rattle.tsn_model.specs.declared.Decision.{Decision}
use Rattle.tsn_model.specs.declared.Side.TheVariants.{Left}
use Rattle.tsn_model.specs.Arcs.{arcs_of}
use Rattle.tsn_diff.specs.Answers.{Refutes}
use Rattle.tsn_branch.proofs.Descents.{arcs-nil}
use Rattle.tsn_branch.proofs.Positions.{arcs_more, none_hold}
use Rattle.tsn_branch.proofs.descent.put_above.Goals as goal

abbrev no_decision : Decision
no_decision = record { triple = record { left = 0; right = 0; link = 0; lag = pos 0 }; side = Left }

pub loop-depth-init : goal.loop-depth-init
loop-depth-init c = record {
  releases = c.requires.releases;
  arcs = c.requires.empty ∙ sym (arcs-nil c.args.timing.now);
}

pub arc-arc-requires : goal.arc-arc-requires
arc-arc-requires c =
    let path = c.args.path.now in
    let here = c.loop-depth-test.true in
    let above = c.saturating_sub-above.ensures in
    let within : c.loop-depth.depth < length path = omega arith in
    All-get_or (λ (d : Decision). Contains c.args.conflicts.now.triples d.triple) path c.loop-depth.depth no_decision within c.requires.fits

pub loop-depth-preserved : goal.loop-depth-preserved
loop-depth-preserved c =
    let network = c.args.timing.now in
    let path = c.args.path.now in
    let depth = c.loop-depth.depth in
    let here = c.loop-depth-test.true in
    let above = c.saturating_sub-above.ensures in
    let within : depth < length path = omega arith in
    let arc = c.arc-arc.ensures.value network c.requires.conflicts in
    let put = subst (λ o. IfNone o (c.push.new.self.least.arcs ≡ c.loop-depth.stack.least.arcs ++ c.arc-arc.result ∷ []))
    c.in_default.is c.in_ok-_closed.ensures.arcs in
    record {
      releases = c.push.ensures.releases ∙ c.loop-depth.invariant.releases;
      arcs = put ∙ (λ i. c.loop-depth.invariant.arcs i ++ arc i ∷ []) ∙ sym (arcs_more network path depth no_decision within);
    }

pub returns-in-Some-clause-arcs : goal.returns-in-Some-clause-arcs
returns-in-Some-clause-arcs c =
    let network = c.args.timing.now in
    let path = c.args.path.now in
    let depth = c.loop-depth.depth in
    let here = c.loop-depth-test.true in
    let above = c.saturating_sub-above.ensures in
    let arcs = c.loop-depth.invariant.arcs in
    let arc = c.arc-arc.ensures.value network c.requires.conflicts in
    let refutes =
    subst (λ o. IfSome o (λ chain. Refutes (length c.loop-depth.stack.least.releases) (c.loop-depth.stack.least.arcs ++ c.arc-arc.result ∷ []) chain.items))
    c.in-Some.is c.in_ok-_closed.ensures.closed in
    let on_path = subst (λ (as' : List Arc). Refutes (length c.loop-depth.stack.least.releases) as' c.in-Some._closed.items)
    (λ i. arcs i ++ arc i ∷ []) refutes in
    none_hold network path depth (length path - 1) (length c.loop-depth.stack.least.releases)
    no_decision c.in-Some._closed.items (omega arith) (omega arith) on_path

pub returns-clause-arcs : goal.returns-clause-arcs
returns-clause-arcs c =
    let network = c.args.timing.now in
    let path = c.args.path.now in
    let ends = c.loop-depth-test.false in
    let most = c.loop-depth.auto.depth-end in
    let above = c.saturating_sub-above.ensures in
    let long : c.loop-depth.depth ≡ length path - 1 = omega arith in
    c.loop-depth.invariant.arcs ∙ ap (λ n. arcs_of network (take n path)) long

pub push-requires : goal.push-requires
push-requires c = grind (arith, common_steps) steps 2000000

pub returns-in_err-_closed-clause-releases : goal.returns-in_err-_closed-clause-releases
returns-in_err-_closed-clause-releases c =
    let p = err_from_is_err_and c.from_residual.result c.from_residual.ensures.1 in
    rw p.1 tt

pub returns-in_err-_closed-clause-arcs : goal.returns-in_err-_closed-clause-arcs
returns-in_err-_closed-clause-arcs c =
    let p = err_from_is_err_and c.from_residual.result c.from_residual.ensures.1 in
    rw p.1 tt
