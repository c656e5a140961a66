use Rattle.std.proofs.Common.{◌≡◌, ◌<◌, ℕ, subst, arith}
use Rattle.tsn_model.specs.Network.{stream_count}
use Rattle.tsn_model.specs.PlainWords.{Under}
use Rattle.tsn_model.proofs.Tolerating.{under_more, IsPastDelay}
use Rattle.tsn_model.proofs.tolerance.least_delay.Goals as goal

pub loop-i-preserved : goal.loop-i-preserved
loop-i-preserved c = record {
  so_far = under_more
      (λ j slack. IsPastDelay c.args.network.now c.args.link j slack) c.loop-i.i c.loop-i.least c.delay_before-least.result c.args.most c.loop-i.invariant.so_far c.delay_before-least.ensures;
  end = c.loop-i.invariant.end;
}

pub returns : goal.returns
returns c =
    let all : c.loop-i.i ≡ stream_count c.args.network.now = omega arith in
    subst (λ n. Under c.loop-i.least c.args.most (λ slack. (j : ℕ) → j < n → IsPastDelay c.args.network.now c.args.link j slack)) all c.loop-i.invariant.so_far
