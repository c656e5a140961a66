use Rattle.std.proofs.lemmas.Result.{err_from_is_err_and}
use Rattle.tsn_argue.proofs.PlacingLemmas.{frame_on, stream_there}
use Rattle.tsn_argue.proofs.motion.judge_fill.Goals as goal

pub returns-in_err-judge_filling : goal.returns-in_err-judge_filling
returns-in_err-judge_filling c =
    let p = err_from_is_err_and c.from_residual.result c.from_residual.ensures.1 in
    rw (p.1, p.2) c.in_err-judge_filling.ensures

pub visit_of-visit-requires : goal.visit_of-visit-requires
visit_of-visit-requires c = frame_on _ _ _ _ c.in_ok-judge_filling.ensures.on

pub one-requires : goal.one-requires
one-requires c =
    let filling = c.args.filling.now in
    stream_there c.args.basis.now.view.now.timing.now filling.link filling.frame filling.others c.in_ok-judge_filling.ensures.on
