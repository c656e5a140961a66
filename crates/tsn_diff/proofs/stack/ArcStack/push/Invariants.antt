use Rattle.tsn_diff.specs.Labels.{labelling_of}
use Rattle.tsn_diff.specs.Spread.{base_of}
use Rattle.tsn_diff.proofs.stack.ArcStack.push.Given as goal

abbrev pub ghost-put_in : goal.ghost-put_in
ghost-put_in a = base_of (labelling_of a.labels.now) a.arcs.now.items a.wave.now.trail a.arc
