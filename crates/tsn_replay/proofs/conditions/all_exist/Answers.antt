use Rattle.std.proofs.Common.{◌<◌, refl, ap, arith}
use Rattle.tsn_model.specs.Bridge.{LinkGates}
use Rattle.tsn_model.proofs.Rest.{all_more, all_done}
use Rattle.tsn_replay.proofs.conditions.all_exist.Goals as goal

pub loop-list-preserved : goal.loop-list-preserved
loop-list-preserved c =
    let is = ap (λ (list : LinkGates). list.link) c.list-item.is in
    record {
      so_far = all_more (λ (list : LinkGates). list.link < c.args.links) c.args.lists.now c.loop-list.list-index c.list-item.result c.loop-list-test.true
          c.loop-list.invariant.so_far (omega arith);
      last = refl;
    }

pub returns-then-link-links : goal.returns-then-link-links
returns-then-link-links c =
    let is = ap (λ (list : LinkGates). list.link) c.list-item.is in
    (λ yes. absurd (cc yes), λ all. let here = all c.loop-list.list-index c.list-item.result c.loop-list-test.true in absurd (omega arith))

pub returns : goal.returns
returns c = (
  λ yes. all_done (λ (list : LinkGates). list.link < c.args.links) c.args.lists.now c.loop-list.list-index c.loop-list-test.false c.loop-list.invariant.so_far,
  λ all. refl,
)
