use Rattle.std.proofs.Common.{◌<◌, List, All, length, sym, subst}
use Rattle.std.proofs.lemmas.List.Elements.{All-push}
use Rattle.tsn_model.proofs.More.{mapped_more}
use Rattle.tsn_chart.specs.declared.listener.ListenerShare.{ListenerShare}
use Rattle.tsn_chart.specs.Listeners.{listener_share}
use Rattle.tsn_chart.proofs.listener.shares_at.Goals as goal

pub loop-hop-preserved : goal.loop-hop-preserved
loop-hop-preserved c =
    let pushed = c.in_ok-push.ensures.items in
    record {
      so_far = mapped_more (listener_share c.args.timing.now c.args.share.now) c.args.ends.now c.loop-hop.hop-index 0 _ _ _ c.loop-hop-test.true
          c.loop-hop.invariant.so_far pushed c.listener_share.ensures.value;
      exist = subst (All (λ (listener : ListenerShare). listener.link < length c.args.timing.now.links)) (sym {A = List ListenerShare} pushed)
          (All-push (λ (listener : ListenerShare). listener.link < length c.args.timing.now.links) _ _ c.loop-hop.invariant.exist
          c.listener_share.ensures.exists);
    }
