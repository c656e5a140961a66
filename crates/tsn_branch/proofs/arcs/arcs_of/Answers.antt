use Rattle.std.proofs.Common.{◌∷◌, ◌++◌, [], length, List, map, take, sym, ap, ◌∙◌, arith}
use Rattle.std.proofs.lemmas.List.{map_more, take_all}
use Rattle.std.proofs.lemmas.List.Elements.{All-push}
use Rattle.std.proofs.lemmas.Result.{err_from_is_err_and}
use Rattle.tsn_model.specs.declared.Arc.{Arc}
use Rattle.tsn_model.specs.Arcs as model
use Rattle.tsn_model.specs.Arcs.{arc_of, arc_on}
use Rattle.tsn_diff.specs.Limits.{IsArcAmong}
use Rattle.tsn_branch.proofs.arcs.arcs_of.Goals as goal

pub loop-decision-preserved : goal.loop-decision-preserved
unfolding arc_of
loop-decision-preserved c = record {
  so_far = λ network is.
      c.in_ok-push.ensures.items
      ∙ ap (λ (arcs : List Arc). arcs ++ c.arc.result ∷ []) (c.loop-decision.invariant.so_far network is)
      ∙ ap (λ (arc : Arc). map (arc_of network) (take c.loop-decision.decision-index c.args.path.now) ++ arc ∷ []) (c.arc.ensures.value network is)
      ∙ sym (map_more (arc_of network) c.args.path.now c.loop-decision.decision-index _ c.loop-decision-test.true);
  among = rw c.in_ok-push.ensures.items (All-push (IsArcAmong (length c.args.conflicts.now.uses)) c.loop-decision.arcs.items c.arc.result c.loop-decision.invariant.among
      (record { from_below = c.arc.ensures.from; to_below = c.arc.ensures.to; weight_from = c.arc.ensures.least; weight_to = c.arc.ensures.most }));
}

pub returns-clause-value : goal.returns-clause-value
unfolding model.arcs_of
returns-clause-value c =
    λ network is.
    let past = c.loop-decision-test.false in
    c.loop-decision.invariant.so_far network is ∙ ap (map (arc_of network)) (take_all c.loop-decision.decision-index c.args.path.now (omega arith))

pub returns-in_err-arcs-clause-among : goal.returns-in_err-arcs-clause-among
returns-in_err-arcs-clause-among c =
    let p = err_from_is_err_and c.from_residual.result c.from_residual.ensures.1 in
    rw p.1 tt
