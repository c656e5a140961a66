use Rattle.std.proofs.Common.{sym, arith}
use Rattle.std.proofs.lemmas.List.{take_all}
use Rattle.std.proofs.lemmas.List.FromFn.{length-map-range_with_len, take-map-range_with_len}
use Rattle.tsn_diff.specs.Chains.{chain_in}
use Rattle.tsn_diff.proofs.forest.Forest.truncate.Goals as goal

pub returns-then-count-self : goal.returns-then-count-self
returns-then-count-self c = rw (← c.self.view_is) (sym (take-map-range_with_len (chain_in c.self.inside.last.items) 0 c.self.inside.count c.args.count (omega (arith, c.if-count-self.true))))

pub returns-else-count-self : goal.returns-else-count-self
returns-else-count-self c =
    let length_is = length-map-range_with_len (chain_in c.self.inside.last.items) 0 c.self.inside.count in
    rw (← c.self.view_is) (sym (take_all c.args.count _ (omega (arith, length_is, c.if-count-self.false))))
