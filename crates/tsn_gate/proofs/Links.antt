-- The links of a network within its limits, and the names of its nodes.
use Rattle.std.proofs.Common.{◌≡◌, ℕ, ◌≤◌, ◌<◌, List, [], length, slice_get, unwrap_or, Option, Some, sym, ap, arith}
use Rattle.std.proofs.lemmas.List.{get_or_past}
use Rattle.tsn_model.specs.declared.Link.{Link}
use Rattle.tsn_model.specs.Network.{Network, IsWellFormed, IsLink, link_at}
use Rattle.tsn_timing.specs.Problem.{NamedNetwork}
use Rattle.tsn_gate.specs.Table.{name_at}

pub IsLink-at : (network : Network) → IsWellFormed network → (link : ℕ) → link < length network.links → IsLink network (link_at network link)
unfolding link_at
IsLink-at network formed link below = formed.links link (record { from = 0; to = 0; octet_time = 0; propagation = 0 }) below

IsLink-rate : (network : Network) (link : Link) → IsLink network link → link.octet_time ≤ 800
IsLink-rate network link formed = grind (arith, formed.rate)

-- an octet takes 800 ns at most
pub rate-le : (network : Network) → IsWellFormed network → (link : ℕ) → link < length network.links → (link_at network link).octet_time ≤ 800
rate-le network formed link below = IsLink-rate network (link_at network link) (IsLink-at network formed link below)

-- a link that the network doesn't have takes no time
pub no_octet_time : (network : Network) (link : ℕ) → length network.links ≤ link → (link_at network link).octet_time ≡ 0
unfolding link_at
no_octet_time network link past = ap (λ (l : Link). l.octet_time) (get_or_past network.links link (record { from = 0; to = 0; octet_time = 0; propagation = 0 }) past)

-- the name that was read
pub name_found : (problem : NamedNetwork) (node : ℕ) (name : List ℕ) → slice_get problem.node_names node ≡ Some name → name ≡ name_at problem node
name_found problem node name found = sym (ap (λ (o : Option (List ℕ)). unwrap_or o []) found)
