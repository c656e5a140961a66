-- What each stream and each link gets by a schedule, in nanoseconds.
--     stream_share, stream_shares           a stream's numbers, and those of all streams
--     time_of                               how long a list shows an octet
--     IsLinkShare, AreLinkShares            a link's numbers, by its list and the schedule, and those of all lists
--     AreSharesOfLinks                      those of the lists that a schedule asks for
--     windows_on, sends_several             how many frames there are
use Rattle.std.specs.Prelude.{◌≡◌, ℕ, ◌+◌, ◌-◌, ◌*◌, ◌≤◌, ◌<◌, ◌↔◌, ◌==◌, Bool, nat_lt, is_some, if◌then◌else◌, List, map, length, slice_index_or, sum_by}
use Rattle.std.specs.List.{range_with_len}
use Rattle.tsn_model.specs.declared.GateEntry.{GateEntry}
use Rattle.tsn_model.specs.Network.{Network, stream_count, turns_of, period_of, burst_of, frame_count, latest_of}
use Rattle.tsn_model.specs.Timing.{spread, arrival, span, hop_on}
use Rattle.tsn_model.specs.Schedule.{offset_of}
use Rattle.tsn_model.specs.Gates.{scheduled_octet, closed_octet, background_octet}
use Rattle.tsn_model.specs.Bridge.{LinkGates}
use Rattle.tsn_model.specs.Early.{ToleratesOn}
use Rattle.tsn_gate.specs.GateLists.{AreWantedLists}
use Rattle.tsn_chart.specs.declared.stream.StreamShare.{StreamShare}
use Rattle.tsn_chart.specs.declared.link.LinkShare.{LinkShare}
use Rattle.tsn_chart.specs.Rest.{IsLongestOpen}

-- Stream i, in each of its periods: its offset; how long each of its frames is on its way, which the last one begins so long as the spread after the offset; when that one has arrived; and what is left from then to its latest instant. Then its span, until its links are free again; what is left of the period from then on; the period; and its frames in it.
unfoldable pub stream_share : Network → List ℕ → ℕ → StreamShare
stream_share network offsets i = record {
  stream = i;
  offset = offset_of offsets i;
  latency = arrival network i - spread network i;
  arrival = offset_of offsets i + arrival network i;
  to_latest = latest_of network i - (offset_of offsets i + arrival network i);
  span = span network i;
  to_period_end = period_of network i - (offset_of offsets i + span network i);
  period = period_of network i;
  frames = burst_of network i;
}

-- all streams, in order
abbrev pub stream_shares : Network → List ℕ → List StreamShare
stream_shares network offsets = map (stream_share network offsets) (range_with_len 0 (stream_count network))

abbrev pub time_in : ℕ → GateEntry → ℕ
time_in octet entry = if entry.octet == octet then entry.interval else 0

-- how long in each cycle of the list its gates are as the octet says
unfoldable pub time_of : ℕ → List GateEntry → ℕ
time_of octet entries = sum_by (time_in octet) entries

-- so many frames of stream i occupy the link in a cycle, and so many of all streams
unfoldable pub frames_on : Network → ℕ → ℕ → ℕ
frames_on network link i = if is_some (hop_on network i link) then turns_of network i * burst_of network i else 0

unfoldable pub windows_on : Network → ℕ → ℕ
windows_on network link = sum_by (frames_on network link) (range_with_len 0 (stream_count network))

-- whether the streams send more frames in a cycle than there are streams
unfoldable pub sends_several : Network → Bool
sends_several network = nat_lt (stream_count network) (frame_count network)

-- for how long the link is open for the scheduled class alone, closed for all, and open for the background classes alone; the longest of the latter without a break; how early frames may be ready for it; and how many windows it has
pub record IsLinkShare (network : Network) (offsets : List ℕ) (list : LinkGates) (share : LinkShare) : Type 0 where
  pub link : share.link ≡ list.link
  pub scheduled : share.scheduled ≡ time_of scheduled_octet list.entries
  pub guard : share.guard ≡ time_of closed_octet list.entries
  pub open_time : share.open ≡ time_of background_octet list.entries
  pub longest : IsLongestOpen list.entries share.longest_open
  pub slack : (n : ℕ) → ToleratesOn network offsets list.link n ↔ (n ≤ share.slack)
  pub windows : share.windows ≡ windows_on network list.link

-- a share for each list, in order
pub record AreLinkShares (network : Network) (offsets : List ℕ) (lists : List LinkGates) (shares : List LinkShare) : Type 0 where
  pub count : length shares ≡ length lists
  pub right : (k : ℕ) (list : LinkGates) (share : LinkShare) → k < length lists → IsLinkShare network offsets (slice_index_or lists k list) (slice_index_or shares k share)

-- shares of the lists that the schedule asks for
pub record AreSharesOfLinks (network : Network) (offsets : List ℕ) (shares : List LinkShare) : Type 0 where
  pub lists : List LinkGates
  pub wanted : AreWantedLists network offsets lists
  pub shared : AreLinkShares network offsets lists shares
