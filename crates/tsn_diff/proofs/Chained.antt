-- Chains that are kept by their last arcs.
use Rattle.std.proofs.Common.{List, arith}
use Rattle.tsn_model.specs.declared.Arc.{Arc}
use Rattle.tsn_diff.specs.Forest.{Labelling, IsForest}
use Rattle.tsn_diff.specs.Chains.{IsRooted}

pub IsRooted-from_forest : {arcs : List Arc} {labels : Labelling} → IsForest arcs labels → IsRooted labels.last
IsRooted-from_forest {arcs} {labels} forest = record {
  few = omega (arith, forest.count, forest.few);
  from_in = λ stream step is. omega (arith, forest.count, (forest.steps stream step is).from_in);
  rooted = forest.rooted;
}
