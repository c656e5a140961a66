-- Streams that run already, each with the offset that it has: networks grow while they run.
--     hold, held       the network in which such a stream may start at that offset and at no other
--     AreInLimits      what a network file lets an offset be
--     AreFree, HasOffsets
use Rattle.std.specs.Prelude.{◌≡◌, ℕ, ◌+◌, ◌≤◌, ◌<◌, min, List, map, slice_index_or, All, Option, Some, None}
use Rattle.std.specs.List.{range_with_len}
use Rattle.std.specs.Option.{option_map_or}
use Rattle.tsn_model.specs.Network.{Network, Stream, stream_count, stream_at, period_of, release_of, latest_of}
use Rattle.tsn_model.specs.Timing.{arrival}
use Rattle.tsn_model.specs.Schedule.{offset_of}

-- stream i with one offset left: that is its release, and its latest instant is when it arrives by it. No latest instant is above 1,000,000,000; what arrives later doesn't fit its period
abbrev pub hold : Network → ℕ → ℕ → Stream
hold network i offset = record (stream_at network i) { release = offset; latest = min (offset + arrival network i) 1000000000 }

-- the offset that stream i has already, if it has one
abbrev pub had : List (Option ℕ) → ℕ → Option ℕ
had offsets i = slice_index_or offsets i None

-- stream i, held to the offset that it has already, if it has one
abbrev pub held_stream : Network → List (Option ℕ) → ℕ → Stream
held_stream network offsets i = option_map_or (hold network i) (had offsets i) (stream_at network i)

-- the network with its streams held to the offsets that they have already
unfoldable pub held : Network → List (Option ℕ) → Network
held network offsets = record network { streams = map (held_stream network offsets) (range_with_len 0 (stream_count network)) }

-- each offset is one that a network file may say
abbrev pub AreInLimits : List (Option ℕ) → Type 0
AreInLimits offsets = All (λ found. (offset : ℕ) → found ≡ Some offset → offset ≤ 1000000000) offsets

-- the streams that have an offset already have neither a release nor a latest instant besides
abbrev pub AreFree : Network → List (Option ℕ) → Type 0
AreFree network offsets = (i offset : ℕ) → i < stream_count network → had offsets i ≡ Some offset → (release_of network i ≡ 0) × (period_of network i ≤ latest_of network i)

-- the list has the offsets that streams have already
abbrev pub HasOffsets : Network → List (Option ℕ) → List ℕ → Type 0
HasOffsets network offsets list = (i offset : ℕ) → i < stream_count network → had offsets i ≡ Some offset → offset_of list i ≡ offset
