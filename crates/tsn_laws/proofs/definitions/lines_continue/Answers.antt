use Rattle.tsn_model.proofs.Lines.{line_sent, line_continues}
use Rattle.tsn_laws.proofs.definitions.lines_continue.Goals as goal

pub returns : goal.returns
returns c = λ network route line k below. (line_sent network route line k below, λ j j_below. line_continues network route line j k j_below below)
