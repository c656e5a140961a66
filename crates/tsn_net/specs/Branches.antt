-- What a route has to be by itself, as the conditions of a file ask it of each.
--     is_joined      a cable joins each two neighbours
--     IsWay          a way over nodes and cables, with bridges inside
use Rattle.std.specs.Prelude.{◌≡◌, ℕ, ◌≤◌, Bool, true, false, List, length}
use Rattle.std.specs.List.{list_any, list_all}
use Rattle.std.specs.Str.{bytes_eq}
use Rattle.toml.specs.Data.{Data}
use Rattle.tsn_net.specs.Conditions.{repeats, neighbours, has_cable, names_bridge, inner}

abbrev pub is_joined : List Data → List (List ℕ) → Bool
is_joined cables route = list_all (has_cable cables) (neighbours route)

-- names of nodes, two or more and none twice, with bridges inside, and a cable between each two neighbours
pub record IsWay (names : List (List ℕ)) (cables nodes : List Data) (route : List (List ℕ)) : Type 0 where
  pub two : 2 ≤ length route
  pub joined : is_joined cables route ≡ true
  pub known : list_all (λ name. list_any (bytes_eq name) names) route ≡ true
  pub once : repeats route ≡ false
  pub bridges : list_all (names_bridge nodes) (inner route) ≡ true
