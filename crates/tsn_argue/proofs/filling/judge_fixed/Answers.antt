use Rattle.std.proofs.lemmas.List.Elements.{All-contains}
use Rattle.tsn_model.specs.Certificate.{IsFrameOn}
use Rattle.tsn_argue.proofs.filling.judge_fixed.Goals as goal

pub is_fixed-requires-clause-on : goal.is_fixed-requires-clause-on
is_fixed-requires-clause-on c =
    All-contains (IsFrameOn c.args.view.now.timing.now c.args.link) c.args.frames.now c.args.frame c.requires.on c.if-not-has.ensures
