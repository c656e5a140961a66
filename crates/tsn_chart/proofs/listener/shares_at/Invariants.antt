use Rattle.std.proofs.Common.{◌≡◌, ◌<◌, All, length, map, take}
use Rattle.tsn_chart.specs.declared.listener.ListenerShare.{ListenerShare}
use Rattle.tsn_chart.specs.Listeners.{listener_share}
use Rattle.tsn_chart.proofs.listener.shares_at.Given as goal

abbrev pub invariant-loop-hop : goal.invariant-loop-hop
invariant-loop-hop l = record {
  so_far : l.shares.items ≡ map (listener_share l.timing l.share) (take l.hop-index l.ends);
  exist : All (λ (listener : ListenerShare). listener.link < length l.timing.links) l.shares.items;
}
