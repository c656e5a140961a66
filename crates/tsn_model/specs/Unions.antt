-- Routes with branches as the union of routes without, one to each listener or more: as a network file names them.
--     RunsFrom               links that lead one after another
--     with_links, union_of   the links of several, each once
--     AreRoutes              such that their union is a route
use Rattle.std.specs.Prelude.{◌≡◌, ◌≢◌, ℕ, ◌≤◌, ◌<◌, List, [], ◌∷◌, ◌++◌, length, fold, ◌==◌, if◌then◌else◌, All, Contains}
use Rattle.std.specs.List.{list_any}
use Rattle.tsn_model.specs.Network.{Network, link_at}

-- the links lead one after another, the first of them from the node
abbrev pub RunsFrom : Network → ℕ → List ℕ → Type 0
RunsFrom network node [] = Unit {0}
RunsFrom network node (link ∷ links) = ((link_at network link).from ≡ node) × RunsFrom network (link_at network link).to links

-- some links, and behind them those of a route that aren't among them
unfoldable pub with_links : List ℕ → List ℕ → List ℕ
with_links links [] = links
with_links links (link ∷ route) = with_links (if list_any (λ other. other == link) links then links else links ++ link ∷ []) route

-- the links of some routes, each once, in the order in which they come there first
unfoldable pub union_of : List (List ℕ) → List ℕ
union_of routes = fold with_links [] routes

-- Routes from one talker, of links of the network, 64 in all at most. None of these ends at the talker; and where two different ones end, none begins: there is a listener with two ports.
pub record AreRoutes (network : Network) (talker : ℕ) (routes : List (List ℕ)) : Type 0 where
  pub some_route : 1 ≤ length routes
  pub some_link : All (λ route. 1 ≤ length route) routes
  pub run : All (RunsFrom network talker) routes
  pub links_exist : All (λ route. All (λ link. link < length network.links) route) routes
  pub few_links : length (union_of routes) ≤ 64
  pub none_returns : (link : ℕ) → Contains (union_of routes) link → (link_at network link).to ≢ talker
  pub entered_once : (first second next : ℕ) → Contains (union_of routes) first → Contains (union_of routes) second → Contains (union_of routes) next → first ≢ second
      → (link_at network first).to ≡ (link_at network next).from → (link_at network second).to ≡ (link_at network next).from → ⊥
