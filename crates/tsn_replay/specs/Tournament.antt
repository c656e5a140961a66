-- The ports of a replay in order: a tree of instants. Node k has the nodes 2k and 2k + 1 below it, and the last ones, the leaves, are the ports'.
use Rattle.std.specs.Prelude.{◌≡◌, ℕ, ◌+◌, ◌*◌, ◌≤◌, ◌<◌, ◌⊎◌, List, slice_index, length, min}
use Rattle.tsn_replay.specs.declared.port.Port.{Port}
use Rattle.tsn_replay.specs.Ports.{port_time, port_in}

-- how many ports there are at most: a network has no more links
abbrev pub most_ports : ℕ
most_ports = 4096

-- what a leaf without a port holds
abbrev pub never : ℕ
never = 18446744073709551615

-- the node above node k, and those below it
abbrev pub IsAbove : ℕ → ℕ → Type 0
IsAbove parent k = (k ≡ 2 * parent) ⊎ (k ≡ 2 * parent + 1)

-- each node above the leaves holds the lesser instant of the two below it, but for those above that one
abbrev pub AreLesserBut : ℕ → ℕ → List ℕ → Type 0
AreLesserBut changed leaves times = (k : ℕ) → 1 ≤ k → k < leaves → ¬ IsAbove k changed → slice_index times k ≡ min (slice_index times (2 * k)) (slice_index times (2 * k + 1))

-- the tree of the ports' instants
pub record IsTournament (ports : List Port) (leaves : ℕ) (times : List ℕ) : Type 0 where
  pub some : 1 ≤ leaves
  pub few : leaves ≤ 2 * most_ports
  pub fits : length ports ≤ leaves
  pub count : length times ≡ 2 * leaves
  pub lesser : AreLesserBut 0 leaves times
  pub leaf : (number : ℕ) → number < length ports → slice_index times (leaves + number) ≡ port_time (port_in ports number)
  pub spare : (number : ℕ) → length ports ≤ number → number < leaves → slice_index times (leaves + number) ≡ never
