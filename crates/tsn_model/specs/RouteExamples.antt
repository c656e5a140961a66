-- Small networks whose streams have several listeners, or a listener with two ports.
--     multicast_network, SmallMulticast      two listeners
--     ports_network, SmallPorts              a talker and a listener with two ports each
use Rattle.std.specs.Prelude.{◌≡◌, ℕ, List, [], ◌∷◌, pos, Some}
use Rattle.tsn_model.specs.declared.Triple.{Triple}
use Rattle.tsn_model.specs.Network.{Stream, Network, IsWellFormed, IsRoute, route_of}
use Rattle.tsn_model.specs.Timing.{pace, start, start_on, hop_arrival, arrival, span}
use Rattle.tsn_model.specs.Schedule.{IsValid, flowspan, IsFirst}
use Rattle.tsn_model.specs.Arcs.{conflicts_of}
use Rattle.tsn_model.specs.Certificate.{late, Tree, tie, branch, AcceptsFirst}
use Rattle.tsn_model.specs.Failures.{IsIntact}
use Rattle.tsn_model.specs.Lines.{IsLine}
use Rattle.tsn_model.specs.Examples.{star_of}

-- ---- two listeners

-- in the star of A, B and C round the bridge S: from C to A and to B, by the links C-S, S-A and S-B, and from A to B
abbrev pub multicast_streams : List Stream
multicast_streams =
    record { octets = 64; turns = 1; burst = 1; route = 5 ∷ 1 ∷ 3 ∷ []; release = 0; latest = 1000000 }
    ∷ record { octets = 64; turns = 1; burst = 1; route = 0 ∷ 3 ∷ []; release = 0; latest = 1000000 } ∷ []

unfoldable pub multicast_network : Network
multicast_network = star_of 1000000 multicast_streams

-- one stream after the other on the link to B
unfoldable pub multicast_offsets : List ℕ
multicast_offsets = 0 ∷ 672 ∷ []

unfoldable pub shared_branch : Triple
shared_branch = record { left = 0; right = 1; link = 3; lag = pos 0 }

unfoldable pub multicast_tree : Tree
multicast_tree = branch shared_branch (tie (late 1 (0 ∷ [])) ([] ∷ (0 ∷ []) ∷ [])) (tie (late 0 (0 ∷ [])) ((0 ∷ []) ∷ []))

-- its numbers, by hand: the bridge has the whole frame after 626 ns and starts its copies at once, 1000 ns later; the route has branches, so it is no line
pub record SmallMulticast : Type 0 where
  pub sent : start multicast_network 0 0 ≡ 0
  pub first_copy : start multicast_network 0 1 ≡ 1626
  pub second_copy : start multicast_network 0 2 ≡ 1626
  pub on_branch : start_on multicast_network 0 3 ≡ 1626
  pub first_listener : hop_arrival multicast_network 0 1 ≡ 2252
  pub second_listener : hop_arrival multicast_network 0 2 ≡ 2252
  pub arrives : arrival multicast_network 0 ≡ 2252
  pub spans : span multicast_network 0 ≡ 2298
  pub conflicts : conflicts_of multicast_network ≡ shared_branch ∷ []
  pub whole : flowspan multicast_network multicast_offsets ≡ 2924
  pub branches : IsLine multicast_network (route_of multicast_network 0) → ⊥
  pub formed : IsWellFormed multicast_network
  pub valid : IsValid multicast_network multicast_offsets
  pub accepted : AcceptsFirst multicast_network (Some multicast_offsets) [] multicast_tree
  pub first : IsFirst multicast_network multicast_offsets

-- ---- two ports

-- nodes A and L with two ports each, and the bridges S and T, of which T is slower; links A-S, A-T, S-L, T-L and T-S, those of T at 100 Mb/s; some streams
abbrev pub ports_of : List Stream → Network
ports_of streams = record {
  cycle = 1000000;
  slack = 0;
  procs = 0 ∷ 0 ∷ 1000 ∷ 2000 ∷ [];
  links =
      record { from = 0; to = 2; octet_time = 8; propagation = 50 } ∷ record { from = 0; to = 3; octet_time = 80; propagation = 50 }
      ∷ record { from = 2; to = 1; octet_time = 8; propagation = 50 } ∷ record { from = 3; to = 1; octet_time = 80; propagation = 50 }
      ∷ record { from = 3; to = 2; octet_time = 80; propagation = 50 } ∷ [];
  streams = streams;
}

-- two frames a cycle, from A to L by S and by T
abbrev pub ports_stream : Stream
ports_stream = record { octets = 64; turns = 1; burst = 2; route = 0 ∷ 2 ∷ 1 ∷ 3 ∷ []; release = 0; latest = 1000000 }

unfoldable pub ports_network : Network
ports_network = ports_of (ports_stream ∷ [])

-- By hand: at 100 Mb/s a frame of 64 octets occupies a link for 6720 ns, the slowest of the route, and is at the other end after 5810 ns. A sends at both ports at once; L has heard both frames by S long before it has by T, and the arrival is that by T.
-- Where the links of S have failed L still has a whole way by T, and the other way round. A route that enters S by two links and goes on from there is none.
pub record SmallPorts : Type 0 where
  pub paces : pace ports_network 0 ≡ 6720
  pub sent_to_s : start ports_network 0 0 ≡ 0
  pub by_s : start ports_network 0 1 ≡ 1626
  pub sent_to_t : start ports_network 0 2 ≡ 0
  pub by_t : start ports_network 0 3 ≡ 7810
  pub heard_by_s : hop_arrival ports_network 0 1 ≡ 8972
  pub heard_by_t : hop_arrival ports_network 0 3 ≡ 20340
  pub arrives : arrival ports_network 0 ≡ 20340
  pub spans : span ports_network 0 ≡ 21250
  pub formed : IsWellFormed ports_network
  pub first : IsFirst ports_network (0 ∷ [])
  pub without_s : IsIntact (0 ∷ 2 ∷ []) ports_network (route_of ports_network 0) 3
  pub without_t : IsIntact (1 ∷ 3 ∷ []) ports_network (route_of ports_network 0) 1
  pub refused : IsRoute ports_network (0 ∷ 1 ∷ 4 ∷ 2 ∷ []) → ⊥
