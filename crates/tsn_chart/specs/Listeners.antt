-- What the listeners of a stream get, where they are several or one hears it by two ways.
--     listener_share, listener_shares     the numbers of one, and of all
--     ListenersArrive                     when that is by a schedule
use Rattle.std.specs.Prelude.{◌≡◌, ℕ, ◌+◌, ◌-◌, ◌<◌, List, map}
use Rattle.tsn_model.specs.Network.{Network, IsWellFormed, stream_count, hop_count, route_link, latest_of}
use Rattle.tsn_model.specs.Timing.{transfer, start, hop_arrival, arrival}
use Rattle.tsn_model.specs.Schedule.{offset_of}
use Rattle.tsn_timing.specs.Ends.{several_ends}
use Rattle.tsn_chart.specs.declared.stream.StreamShare.{StreamShare}
use Rattle.tsn_chart.specs.declared.listener.ListenerShare.{ListenerShare}
use Rattle.tsn_chart.specs.Shares.{stream_share}

-- when the last frame of a period is at the end of hop k, where the stream has that share: as much before it has arrived everywhere as its way there is shorter
abbrev pub heard_at : Network → StreamShare → ℕ → ℕ
heard_at network share k = share.arrival - (arrival network share.stream - hop_arrival network share.stream k)

-- hop k's link, by which the listener at its end hears the stream; how long each frame is on its way there; when the last one of a period is; and what is left from then to the stream's latest instant
unfoldable pub listener_share : Network → StreamShare → ℕ → ListenerShare
listener_share network share k = record {
  link = route_link network share.stream k;
  latency = start network share.stream k + transfer network share.stream (route_link network share.stream k);
  arrival = heard_at network share k;
  to_latest = latest_of network share.stream - heard_at network share k;
}

-- those at all hops that end at a listener, in the order of the route, where these are several
unfoldable pub listener_shares : Network → StreamShare → List ListenerShare
listener_shares network share = map (listener_share network share) (several_ends network share.stream)

-- where the share is that by a schedule, the last frame is there when the frame's way from the offset on is over, and so much is left
abbrev pub ListenersArrive : Type 0
ListenersArrive = (network : Network) (offsets : List ℕ) (i k : ℕ) → IsWellFormed network → i < stream_count network → k < hop_count network i
    → ((listener_share network (stream_share network offsets i) k).arrival ≡ offset_of offsets i + hop_arrival network i k)
    × ((listener_share network (stream_share network offsets i) k).to_latest ≡ latest_of network i - (offset_of offsets i + hop_arrival network i k))
