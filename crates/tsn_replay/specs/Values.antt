-- The values of the background's types: those of the definitions of a bridge run.
use Rattle.tsn_model.specs.Bridge as model

abbrev pub FrameValue : Type 0
FrameValue = model.BackgroundFrame

abbrev pub BackgroundValue : Type 0
BackgroundValue = model.Background
