-- A network with names.
use Rattle.std.specs.Prelude.{◌≡◌, ℕ, List, length}
use Rattle.tsn_model.specs.Network.{Network, stream_count}

-- a network, and the names of its nodes and streams
pub record NamedNetwork : Type 0 where
  pub network : Network
  pub node_names : List (List ℕ)
  pub stream_names : List (List ℕ)

-- each node and each stream has a name
pub record HasNames (named : NamedNetwork) : Type 0 where
  pub nodes : length named.node_names ≡ length named.network.procs
  pub streams : length named.stream_names ≡ stream_count named.network
