use Rattle.std.proofs.Common.{◌≢◌, refl, sym, ap, ◌∙◌}
use Rattle.tsn_model.specs.Bridge.{LinkGates}
use Rattle.tsn_model.proofs.Rest.{all_more, all_done}
use Rattle.tsn_replay.proofs.conditions.is_listed.Goals as goal

pub loop-list-preserved : goal.loop-list-preserved
loop-list-preserved c =
    let is = ap (λ (list : LinkGates). list.link) c.list-item.is in
    record {
      so_far = all_more (λ (list : LinkGates). list.link ≢ c.args.link) c.args.lists.now c.loop-list.list-index c.list-item.result c.loop-list-test.true
          c.loop-list.invariant.so_far (λ same. c.if-link.false (c.link.ensures ∙ is ∙ same));
      last = refl;
    }

pub returns-then-link : goal.returns-then-link
returns-then-link c =
    let is = ap (λ (list : LinkGates). list.link) c.list-item.is in
    (λ yes. (c.loop-list.list-index, c.list-item.result, c.loop-list-test.true, sym c.list-item.is, sym c.link.ensures ∙ c.if-link.true), λ listed. refl)

pub returns : goal.returns
returns c =
    let none = all_done (λ (list : LinkGates). list.link ≢ c.args.link) c.args.lists.now c.loop-list.list-index
    c.loop-list-test.false c.loop-list.invariant.so_far in
    (λ yes. absurd (cc yes), λ listed. absurd (none listed.0 listed.1 listed.2 (ap (λ (list : LinkGates). list.link) listed.3 ∙ listed.4)))
