use Rattle.std.proofs.Common.{[], length, sym, ap, ◌∙◌, subst, arith}
use Rattle.std.proofs.lemmas.List.FromFn.{length-map-range_with_len, get_or-map-range_with_len}
use Rattle.tsn_diff.specs.Chains.{IsRooted, chain_in}
use Rattle.tsn_diff.proofs.ChainedSteps.{chain_short}
use Rattle.tsn_diff.proofs.forest.Forest.walk.Goals as goal

pub invariant_of-result : goal.invariant_of-result
invariant_of-result c =
    let last = c.self.inside.last.items in
    let asked = rw (← c.self.view_is, length-map-range_with_len (chain_in last) 0 c.self.inside.count) at c.requires in
    (subst IsRooted (sym c.deref.ensures.value) c.self.invariant.0, omega (arith, asked, c.self.invariant.2, ap length c.deref.ensures.value))

pub returns-clause-chain : goal.returns-clause-chain
returns-clause-chain c =
    let last = c.self.inside.last.items in
    let asked = rw (← c.self.view_is, length-map-range_with_len (chain_in last) 0 c.self.inside.count) at c.requires in
    rw (← c.self.view_is) (ap (λ items. chain_in items c.args.stream) c.deref.ensures.value ∙ sym (get_or-map-range_with_len (chain_in last) 0 c.self.inside.count c.args.stream c.args.stream [] asked (omega arith)))

pub returns-clause-short : goal.returns-clause-short
returns-clause-short c =
    let last = c.self.inside.last.items in
    let asked = rw (← c.self.view_is, length-map-range_with_len (chain_in last) 0 c.self.inside.count) at c.requires in
    let short = chain_short c.self.invariant.0 c.args.stream (omega (arith, asked, c.self.invariant.2)) in
    omega (arith, short, ap (λ items. length (chain_in items c.args.stream)) c.deref.ensures.value)
