-- How busy the links are that several streams share.
--     users_of, shared_links         the streams of a link, and the links of two or more streams
--     work_on, tail_on               what doesn't depend on the offsets
--     head_by, busy_by, load_by      how long a link is busy by a list of offsets, and what flowspan that asks for
--     IsUnloaded, IsFirstLoaded      the first link that is busy too long
use Rattle.std.specs.Prelude.{◌≡◌, ℕ, ◌+◌, List, map, length, take, filter, slice_get, Some, is_some, nat_le, sum_by, All, ℤ, pos, ◌+ℤ◌, ◌-ℤ◌, ◌≤ℤ◌, ◌<ℤ◌}
use Rattle.std.specs.List.{range_with_len}
use Rattle.tsn_model.specs.Network.{Network, stream_count}
use Rattle.tsn_model.specs.Timing.{separation, arrival, hop_on, start_on}
use Rattle.tsn_model.specs.Schedule.{offset_of}
use Rattle.tsn_model.specs.Certificate.{least}

-- the streams that use the link, in order
unfoldable pub users_of : Network → ℕ → List ℕ
users_of network link = filter (λ i. is_some (hop_on network i link)) (range_with_len 0 (stream_count network))

-- the links that two or more streams use, in order
unfoldable pub shared_links : Network → List ℕ
shared_links network = filter (λ link. nat_le 2 (length (users_of network link))) (range_with_len 0 (length network.links))

-- how long the first frames of the link's streams keep it, one after another
unfoldable pub work_on : Network → ℕ → ℕ
work_on network link = sum_by (λ i. separation network i link) (users_of network link)

-- how long after its first frame has kept the link one of its streams arrives at the soonest; below 0 where it keeps it past its arrival
unfoldable pub tail_on : Network → ℕ → ℤ
tail_on network link = least (map (λ i. pos (arrival network i) -ℤ pos (start_on network i link + separation network i link)) (users_of network link))

-- the earliest instant at which, put at its offset, one of the link's streams starts there
unfoldable pub head_by : Network → List ℕ → ℕ → ℤ
head_by network offsets link = least (map (λ i. pos (offset_of offsets i + start_on network i link)) (users_of network link))

-- the instant before which the first frames of the link's streams aren't all done with it, where none starts before its offset
unfoldable pub busy_by : Network → List ℕ → ℕ → ℤ
busy_by network offsets link = head_by network offsets link +ℤ pos (work_on network link)

-- what no flowspan is below, where no stream starts before its offset
unfoldable pub load_by : Network → List ℕ → ℕ → ℤ
load_by network offsets link = busy_by network offsets link +ℤ tail_on network link

-- by these offsets the link may be done with these frames within the cycle, and its streams may arrive before the target
pub record IsUnloaded (network : Network) (offsets : List ℕ) (target link : ℕ) : Type 0 where
  pub within_cycle : busy_by network offsets link ≤ℤ pos network.cycle
  pub below_target : load_by network offsets link <ℤ pos target

-- it is one of the shared links, and those before it are not loaded
pub record IsFirstLoaded (network : Network) (offsets : List ℕ) (target link : ℕ) : Type 0 where
  pub link_index : ℕ
  pub there : slice_get (shared_links network) link_index ≡ Some link
  pub unloaded_before : All (IsUnloaded network offsets target) (take link_index (shared_links network))
