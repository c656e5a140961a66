use Rattle.std.proofs.Common.{◌∷◌, true, inr, refl, ap, subst, arith}
use Rattle.std.proofs.lemmas.Int.{ints}
use Rattle.tsn_model.specs.Argument.{from, put_last, shown}
use Rattle.tsn_argue.specs.Motion.{clauses_of}
use Rattle.tsn_argue.specs.State.{view_of}
use Rattle.tsn_argue.specs.Loads.{IsLoad}
use Rattle.tsn_argue.proofs.PlacingLemmas.{frame_on, stream_there, others_on, all_on, some_on, judged_by}
use Rattle.tsn_argue.proofs.motion.judge_last.Goals as goal

pub load_all-others-requires-clause-on : goal.load_all-others-requires-clause-on
load_all-others-requires-clause-on c = others_on _ _ _ _ c.in_ok-judge_placed.ensures.0 _ c.list-list.ensures.parts

pub load_with-all-requires-clause-on : goal.load_with-all-requires-clause-on
load_with-all-requires-clause-on c = all_on _ _ _ _ c.in_ok-judge_placed.ensures.0 _ c.list-list.ensures.parts

pub load_all-some-requires-clause-on : goal.load_all-some-requires-clause-on
load_all-some-requires-clause-on c = some_on _ _ _ _ c.in_ok-judge_placed.ensures.0 _ _ c.in_ok-judge_placed.ensures.1 c.list.ensures.parts

pub visit_of-visit-requires : goal.visit_of-visit-requires
visit_of-visit-requires c = frame_on _ _ _ _ c.in_ok-judge_placed.ensures.0

pub returns : goal.returns
unfolding shown
returns c =
    let clauses = clauses_of c.args.basis.now.clauses.now in
    let network = c.args.basis.now.view.now.timing.now in
    let view = view_of c.args.basis.now.view.now in
    let link = c.args.placing.now.link in
    let frame = c.args.placing.now.frame in
    let right = c.in_ok-judge_placed.ensures in
    let others = subst (λ fs. IsLoad network view link fs c.load_all-others.result) c.list-list.ensures.parts c.load_all-others.ensures in
    let all = subst (λ fs. IsLoad network view link (frame ∷ fs) c.load_with-all.result) c.list-list.ensures.parts c.load_with-all.ensures in
    let some = subst (λ fs. IsLoad network view link fs c.load_all-some.result) c.list.ensures.parts c.load_all-some.ensures in
    let visit = c.visit_of-visit.ensures in
    judged_by network clauses view (put_last link frame c.args.placing.now.others c.args.placing.now.some) link _ _ _ _ true _ _
    c.shown_without.result c.shown_without.ensures
    (omega (arith, ints, all.head, others.head, all.work, all.head_low, all.head_high, others.head_low, others.head_high, all.short))
    (omega (arith, ints, all.end, others.end, all.end_low, all.end_high, others.end_low, others.end_high))
    (ap (from frame.stream) (omega (arith, ints, some.head, some.work, some.short, some.head_low, some.head_high, visit.begin, visit.early, visit.short)))
    (λ past. (right.0, right.1, past)) refl (stream_there network link frame c.args.placing.now.others right.0)
    (λ wrong room. inr (inr (right.0, right.1, room)))
