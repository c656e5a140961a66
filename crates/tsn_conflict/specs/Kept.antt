-- What is kept of a network for its conflicts.
--     use_at, use_in      a stream's use of a link
--     AreConflictsOf      what is kept is that of a network
use Rattle.std.specs.Prelude.{◌≡◌, ℕ, List, [], map, length, slice_index_or}
use Rattle.std.specs.List.{range_with_len}
use Rattle.std.specs.Option.{option_map_or}
use Rattle.tsn_model.specs.declared.Triple.{Triple}
use Rattle.tsn_model.specs.Network.{Network, IsWellFormed, HasFewStreams, stream_count}
use Rattle.tsn_model.specs.Timing.{separation, start, hop_on}
use Rattle.tsn_model.specs.Arcs.{conflicts_of}
use Rattle.tsn_conflict.specs.declared.uses.Use.{Use}

-- when stream i starts on the link, and how long it keeps it: no time where it doesn't use it
unfoldable pub use_at : Network → ℕ → ℕ → Use
use_at network i link =
    option_map_or (λ hop. record { start = start network i hop; separation = separation network i link }) (hop_on network i link) (record { start = 0; separation = 0 })

-- each stream's use of each link
unfoldable pub uses_of : Network → List (List Use)
uses_of network = map (λ i. map (use_at network i) (range_with_len 0 (length network.links))) (range_with_len 0 (stream_count network))

-- each stream's use of each link, and the conflicts in order
pub record Kept : Type 0 where
  pub uses : List (List Use)
  pub triples : List Triple

-- stream i's use of a link
abbrev pub use_in : List (List Use) → ℕ → ℕ → Use
use_in uses i link = slice_index_or (slice_index_or uses i []) link (record { start = 0; separation = 0 })

-- the network is within its limits and has few streams, and this is what is kept of it
pub record AreConflictsOf (network : Network) (kept : Kept) : Type 0 where
  pub formed : IsWellFormed network
  pub few : HasFewStreams network
  pub streams : length kept.uses ≡ stream_count network
  pub uses : kept.uses ≡ uses_of network
  pub triples : kept.triples ≡ conflicts_of network
