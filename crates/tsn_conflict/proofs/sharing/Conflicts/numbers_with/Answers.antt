use Rattle.std.proofs.Common.{arith}
use Rattle.tsn_conflict.specs.Pairs.{numbers_with}
use Rattle.tsn_conflict.proofs.ByStream.{lists_long, list_of}
use Rattle.tsn_conflict.proofs.sharing.Conflicts.numbers_with.Goals as goal

pub index-requires : goal.index-requires
index-requires c = grind (arith, lists_long)

pub returns : goal.returns
returns c = grind (arith, list_of)
