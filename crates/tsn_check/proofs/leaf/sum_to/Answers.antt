use Rattle.std.proofs.Common.{◌≡◌, arith, refl, pos, ◌+ℤ◌}
use Rattle.std.proofs.lemmas.Int.{ints}
use Rattle.tsn_model.specs.Certificate.{sum_on}
use Rattle.tsn_check.specs.Turns.{decisions}
use Rattle.tsn_check.proofs.Chains.{chain_to, chain_back, sum_from, start_counted}
use Rattle.tsn_check.proofs.leaf.sum_to.Goals as goal

pub release-requires : goal.release-requires
release-requires c = grind (arith, start_counted)

pub returns : goal.returns
returns c =
    let network = c.args.timing.now in
    let chain = c.args.chain.now in
    let walk = c.in-Some.ensures in
    let release = c.release.ensures.value in
    let adds : pos c.release.result +ℤ c.in-Some.walk.sum ≡ sum_on network (decisions c.args.path.now) chain c.args.stream = cc (sum_from network c.args.path.now c.args.chain.now chain c.args.stream c.in-Some.walk.start c.in-Some.walk.sum c.requires refl walk.begins walk.adds) in
    let low = walk.low in
    let high = walk.high in
    record {
      leads = record {
        stream = omega arith;
        chain_to = chain_to network c.args.path.now c.args.chain.now chain c.args.stream c.requires refl walk.is_chain;
      };
      adds = omega (arith, ints);
      low = omega (arith, ints);
      high = omega (arith, ints);
    }

pub returns-in_default : goal.returns-in_default
returns-in_default c =
    let network = c.args.timing.now in
    (refl, λ leads. c.in_default.ensures (chain_back network c.args.path.now c.args.chain.now c.args.chain.now c.args.stream c.requires refl leads.chain_to))
