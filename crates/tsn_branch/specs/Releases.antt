-- Words of the private contracts.
use Rattle.std.specs.Prelude.{ℕ, List, map}
use Rattle.tsn_model.specs.Network.{Network, Stream}

-- the release of each stream
abbrev pub releases_of : Network → List ℕ
releases_of network = map (λ (stream : Stream). stream.release) network.streams
