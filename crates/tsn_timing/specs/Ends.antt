-- The ends of a route where listeners hear its stream.
--     goes_on, is_heard            whether a link of a route is continued
--     ends_of                      the hops at whose ends a stream is heard
--     has_several, several_ends    where these are several
--     EndsAreHeard, LinesHaveOneEnd    what that comes to
use Rattle.std.specs.Prelude.{◌≡◌, ℕ, ◌<◌, ◌==◌, ◌↔◌, Bool, false, not, nat_lt, if◌then◌else◌, List, [], filter, length, Contains}
use Rattle.std.specs.List.{list_any, range_with_len}
use Rattle.tsn_model.specs.Network.{Network, link_at, route_of, hop_count, to_at, IsHeard}
use Rattle.tsn_model.specs.Lines.{IsLine}

-- whether some link of a route begins at a node
unfoldable pub goes_on : Network → List ℕ → ℕ → Bool
goes_on network route node = list_any (λ link. (link_at network link).from == node) route

-- whether none continues the link of place k: it ends at a listener
unfoldable pub is_heard : Network → List ℕ → ℕ → Bool
is_heard network route k = not (goes_on network route (to_at network route k))

-- the hops of stream i that end at a listener, in the order of its route: one for each listener, two for one that hears it by two ways
unfoldable pub ends_of : Network → ℕ → List ℕ
ends_of network i = filter (is_heard network (route_of network i)) (range_with_len 0 (hop_count network i))

-- whether these are several
unfoldable pub has_several : Network → ℕ → Bool
has_several network i = nat_lt 1 (length (ends_of network i))

-- all of them where they are several, and else none
unfoldable pub several_ends : Network → ℕ → List ℕ
several_ends network i = if has_several network i then ends_of network i else []

-- the ends are the hops that none continues
abbrev pub EndsAreHeard : Type 0
EndsAreHeard = (network : Network) (i k : ℕ) → Contains (ends_of network i) k ↔ ((k < hop_count network i) × IsHeard network (route_of network i) k)

-- a route without branches doesn't have several
abbrev pub LinesHaveOneEnd : Type 0
LinesHaveOneEnd = (network : Network) (i : ℕ) → IsLine network (route_of network i) → (has_several network i ≡ false) × (several_ends network i ≡ [])
