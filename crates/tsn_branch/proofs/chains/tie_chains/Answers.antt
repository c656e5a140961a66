use Rattle.std.proofs.Common.{List, ℕ, sym, subst, arith}
use Rattle.std.proofs.lemmas.Grind.{common_steps}
use Rattle.tsn_branch.specs.Chains.{IsCompared}
use Rattle.tsn_branch.specs.Look.{ShowsUpto}
use Rattle.tsn_branch.proofs.Tying.{upto_tie}
use Rattle.tsn_branch.proofs.chains.tie_chains.Goals as goal

pub returns : goal.returns
returns c =
    let network = c.args.timing.now in
    let lowest = c.args.least.now in
    let best = c.args.best.now in
    let n = c.in-Some.count in
    let compared : IsCompared lowest.offsets best n =
    subst (λ (offsets : List ℕ). IsCompared offsets best n) c.offsets.ensures (subst (λ (others : List ℕ). IsCompared c.offsets.result.now others n) c.offsets-2.ensures c.in-Some.ensures) in (
      compared.not_before,
      λ path solves. subst (ShowsUpto network path lowest.offsets best) (sym c.in_ok-chains_to.ensures) (upto_tie network path lowest solves best n compared),
    )

pub compared-requires-clause-some : goal.compared-requires-clause-some
compared-requires-clause-some c = grind (arith, common_steps) steps 2000000

pub compared-requires-clause-count : goal.compared-requires-clause-count
compared-requires-clause-count c = grind (arith, common_steps) steps 2000000
