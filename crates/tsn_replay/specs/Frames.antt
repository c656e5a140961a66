-- The frames of a cycle in order: by stream, and those of a stream by shift.
--     AreSpaced                    no stream's frames at once
--     frames_below, place_of       how they are counted
--     visits_below, first_visit    and how the frames are by hops
--     frames_of, index_of, AreFirsts      where each stands
use Rattle.std.specs.Prelude.{◌≡◌, ℕ, ◌+◌, ◌*◌, ◌≤◌, ◌<◌, ◌==◌, List, length, sum_by, slice_index, AllPairs}
use Rattle.std.specs.List.{range_with_len, position_or_len}
use Rattle.tsn_model.specs.Network.{Network, stream_count, hop_count}
use Rattle.tsn_model.specs.Timing.{shifts, Sends}

-- each stream's frames come one after another, within the cycle
pub record AreSpaced (network : Network) : Type 0 where
  pub within : (i shift : ℕ) → i < stream_count network → Sends network i shift → shift < network.cycle
  pub ascend : (i : ℕ) → i < stream_count network → AllPairs ◌<◌ (shifts network i)

-- how many frames the streams below i send in a cycle
unfoldable pub frames_below : Network → ℕ → ℕ
frames_below network i = sum_by (λ j. length (shifts network j)) (range_with_len 0 i)

-- where a shift stands among those of its stream
unfoldable pub place_of : Network → ℕ → ℕ → ℕ
place_of network i shift = position_or_len (λ s. s == shift) (shifts network i)

-- the same by hop: how many frames by hops those of the streams below i are
unfoldable pub visits_below : Network → ℕ → ℕ
visits_below network i = sum_by (λ j. hop_count network j * length (shifts network j)) (range_with_len 0 i)

-- where the frames of a stream's hop stand among them
abbrev pub first_visit : Network → ℕ → ℕ → ℕ
first_visit network i hop = visits_below network i + hop * length (shifts network i)

-- how many frames all streams send in a cycle
abbrev pub frames_of : Network → ℕ
frames_of network = frames_below network (stream_count network)

-- and how many frames by hops
abbrev pub visits_of : Network → ℕ
visits_of network = visits_below network (stream_count network)

-- where a frame stands among all those of a cycle
abbrev pub index_of : Network → ℕ → ℕ → ℕ
index_of network i shift = frames_below network i + place_of network i shift

-- by stream, where the first of its frames stands; and behind them, how many frames all send
pub record AreFirsts (network : Network) (firsts : List ℕ) : Type 0 where
  pub count : length firsts ≡ stream_count network + 1
  pub each : (i : ℕ) → i ≤ stream_count network → slice_index firsts i ≡ frames_below network i
