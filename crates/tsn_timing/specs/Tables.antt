-- The tables that a `Timing` keeps, beside the network that they are of.
use Rattle.std.specs.Prelude.{◌≡◌, ℕ, ◌+◌, ◌≤◌, ◌<◌, List, length, slice_index_or, All}
use Rattle.tsn_model.specs.declared.bounds.TheConstants.{MAX_OCCUPANCY, MAX_SPREAD, MAX_SPAN, MAX_START}
use Rattle.tsn_model.specs.Network.{Network, IsWellFormed, stream_count, period_of, hop_count, route_link}
use Rattle.tsn_model.specs.Timing.{occupancy, separation, pace, spread, shifts, start, arrival, span}
use Rattle.tsn_timing.specs.declared.tables.Hop.{Hop}
use Rattle.tsn_timing.specs.declared.tables.StreamTable.{StreamTable}

-- a list of n elements, each right for its place
pub record AreRight {X : Type 0} (IsRightAt : ℕ → X → Type 0) (n : ℕ) (xs : List X) : Type 0 where
  pub count : length xs ≡ n
  pub each : (k : ℕ) (d : X) → k < n → IsRightAt k (slice_index_or xs k d)

-- the numbers of stream i's hop k, with how large they are at most
pub record IsHop (network : Network) (i k : ℕ) (hop : Hop) : Type 0 where
  pub same_link : hop.link ≡ route_link network i k
  pub starts : hop.start ≡ start network i k
  pub occupies : hop.occupancy ≡ occupancy network i (route_link network i k)
  pub some : 1 ≤ hop.occupancy
  pub short : hop.occupancy ≤ MAX_OCCUPANCY
  pub keeps : hop.separation ≡ separation network i (route_link network i k)
  pub apart : 1 ≤ hop.separation
  pub near : hop.separation ≤ MAX_OCCUPANCY
  pub early : hop.start ≤ MAX_START

-- the numbers of stream i, with how large they are at most
pub record IsTable (network : Network) (i : ℕ) (table : StreamTable) : Type 0 where
  pub recurs : table.period ≡ period_of network i
  pub paces : table.pace ≡ pace network i
  pub spreads : table.spread ≡ spread network i
  pub sends : table.shifts.items ≡ shifts network i
  pub route : AreRight (IsHop network i) (hop_count network i) table.hops.items
  pub arrives : table.arrival ≡ arrival network i
  pub spans : table.span ≡ span network i
  pub lasts : 1 ≤ table.period
  pub within : table.period ≤ 1000000000
  pub close : table.pace ≤ MAX_OCCUPANCY
  pub narrow : table.spread ≤ MAX_SPREAD
  pub small : All (λ shift. shift ≤ 1000000000 + MAX_SPREAD) table.shifts.items
  pub soon : table.arrival ≤ MAX_SPAN
  pub short : table.span ≤ MAX_SPAN

-- the network is within its limits, and the numbers are those of its streams
pub record AreTables (network : Network) (tables : List StreamTable) : Type 0 where
  pub formed : IsWellFormed network
  pub right : AreRight (IsTable network) (stream_count network) tables
