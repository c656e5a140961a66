use Rattle.std.proofs.Common.{List, subst}
use Rattle.tsn_model.specs.declared.Frame.{Frame}
use Rattle.tsn_argue.specs.Frames.{FindsChoice}
use Rattle.tsn_argue.proofs.PlacingLemmas.{placed}
use Rattle.tsn_argue.proofs.motion.judge_placed.Goals as goal

pub returns : goal.returns
returns c =
    placed c.args.timing.now c.args.placing.now c.list.result.now c.list-2.result.now c.judge_choice.result c.list.ensures.parts
    c.list-2.ensures.parts c.in_ok-judge_frames.ensures.0
    (subst (λ (list : List Frame). FindsChoice list c.list-2.result.now c.judge_choice.result) c.in_ok-judge_frames.ensures.1 c.judge_choice.ensures)
