use Rattle.std.proofs.Common.{◌≡◌, refl, sym, ap, ◌∙◌}
use Rattle.tsn_model.specs.Gates.{cycle_of}
use Rattle.tsn_model.specs.Bridge.{LinkGates}
use Rattle.tsn_model.proofs.Rest.{all_more, all_done}
use Rattle.tsn_replay.proofs.conditions.all_last.Goals as goal

pub loop-list-preserved : goal.loop-list-preserved
loop-list-preserved c =
    let is = ap (λ (list : LinkGates). cycle_of list.entries) c.list-item.is in
    record {
      so_far = all_more (λ (list : LinkGates). cycle_of list.entries ≡ c.args.cycle) c.args.lists.now c.loop-list.list-index c.list-item.result
          c.loop-list-test.true c.loop-list.invariant.so_far (sym is ∙ sym c.cycle.ensures.value ∙ c.if-cycle.false);
      last = refl;
    }

pub returns-then-cycle : goal.returns-then-cycle
returns-then-cycle c =
    let is = ap (λ (list : LinkGates). cycle_of list.entries) c.list-item.is in (
      λ yes. absurd (cc yes),
      λ all. absurd (c.if-cycle.true (c.cycle.ensures.value ∙ is ∙ all c.loop-list.list-index c.list-item.result c.loop-list-test.true)),
    )

pub returns : goal.returns
returns c = (
  λ yes. all_done (λ (list : LinkGates). cycle_of list.entries ≡ c.args.cycle) c.args.lists.now c.loop-list.list-index c.loop-list-test.false
      c.loop-list.invariant.so_far,
  λ all. refl,
)
