use Rattle.std.proofs.Common.{sym}
use Rattle.std.proofs.lemmas.List.FromFn.{length-map-range_with_len}
use Rattle.tsn_diff.specs.Chains.{chain_in}
use Rattle.tsn_diff.proofs.forest.Forest.len.Goals as goal

pub returns-clause-count : goal.returns-clause-count
returns-clause-count c = rw (← c.self.view_is) (sym (length-map-range_with_len (chain_in c.self.inside.last.items) 0 c.self.inside.count))
