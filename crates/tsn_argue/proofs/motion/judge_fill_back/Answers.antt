use Rattle.std.proofs.Common.{◌≡◌, [], ◌∷◌, ap, ◌∙◌, arith}
use Rattle.std.proofs.lemmas.Int.{ints}
use Rattle.std.proofs.lemmas.Result.{err_from_is_err_and}
use Rattle.tsn_model.specs.Argument.{until, shown}
use Rattle.tsn_argue.proofs.PlacingLemmas.{frame_on, stream_there}
use Rattle.tsn_argue.proofs.motion.judge_fill_back.Goals as goal

pub returns-in_err-judge_filling : goal.returns-in_err-judge_filling
returns-in_err-judge_filling c =
    let p = err_from_is_err_and c.from_residual.result c.from_residual.ensures.1 in
    rw (p.1, p.2) c.in_err-judge_filling.ensures

pub visit_of-visit-requires : goal.visit_of-visit-requires
visit_of-visit-requires c = frame_on _ _ _ _ c.in_ok-judge_filling.ensures.on

pub one-requires : goal.one-requires
one-requires c =
    let filling = c.args.filling.now in
    stream_there c.args.basis.now.view.now.timing.now filling.link filling.frame filling.others c.in_ok-judge_filling.ensures.on

pub returns : goal.returns
unfolding shown
returns c =
    let found = c.in_ok-judge_filling.ensures in
    let visit = c.visit_of-visit.ensures in (
      (found.on, found.before, found.after, λ x low high. found.shut x (omega (arith, low)) (omega (arith, high))),
      c.one.ensures.shown ∙ ap (λ v. until c.args.filling.now.frame.stream v ∷ []) (omega (arith, ints, visit.end, visit.early, visit.short)),
      c.one.ensures.facts,
    )
