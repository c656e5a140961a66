-- The certificate of a finished tree: the order of its events, and the nodes that are left to give.
--     IsWalk                     the walk that finds the order: what was passed, and what waits
--     IsOrder                    the numbers of the events, in the order of their paths
--     left_nodes, IsSpelling     the nodes of events that are left to give, and what is known of these
use Rattle.std.specs.Prelude.{pos, ◌≡◌, ◌≢◌, ℕ, ◌<◌, List, [], ◌∷◌, ◌++◌, map, length, All, AllPairs, IsPermutation, Option, Some, slice_get}
use Rattle.std.specs.List.{slice_index_or}
use Rattle.tsn_model.specs.declared.Decision.{Decision}
use Rattle.tsn_model.specs.Network.{Network}
use Rattle.tsn_model.specs.Certificate.{Node}
use Rattle.tsn_model.specs.Search.{Settlement, kept_of}
use Rattle.tsn_model.specs.Order.{Precedes, node_of}
use Rattle.tsn_model.specs.SearchLaws.{AreAcceptedTree}
use Rattle.tsn_model.proofs.Growths.{Growth, in_order, open_in, Stands}
use Rattle.tsn_timing.specs.Solution.{Solution}
use Rattle.tsn_conflict.specs.Outcome.{outcome_of}
use Rattle.tsn_conflict.specs.declared.outcome.Look.TheVariants.{Split}
use Rattle.tsn_book.specs.Arena.{path_at}
use Rattle.tsn_book.specs.Book.{planned, IsPlan, HasTie}
use Rattle.tsn_book.specs.declared.log.Settled.{Settled}

-- what the places that wait are to give, the last one first
unfoldable pub rest_of : List Growth → List Settlement
rest_of [] = []
rest_of (growth ∷ growths) = rest_of growths ++ in_order growth

-- what has grown at a place, with nothing open
pub record IsGrown (paths : List (List Decision)) (place : ℕ) (growth : Growth) : Type 0 where
  pub within : place < length paths
  pub stands : Stands (path_at paths place) growth
  pub closed : open_in (path_at paths place) growth ≡ []

abbrev pub Waits : List (List Decision) → List ℕ → List Growth → Type 0
Waits paths [] [] = Unit {0}
Waits paths [] (growth ∷ growths) = ⊥
Waits paths (place ∷ places) [] = ⊥
Waits paths (place ∷ places) (growth ∷ growths) = IsGrown paths place growth × Waits paths places growths

-- each number is that of its settlement
abbrev pub AreNumbers : List Settlement → List ℕ → List Settlement → Type 0
AreNumbers history numbers settlements = map (slice_get history) numbers ≡ map Some settlements

-- the numbers so far are those of the first settlements in preorder
pub record IsWalk (paths : List (List Decision)) (history : List Settlement) (stack numbers : List ℕ) : Type 0 where
  pub whole : Growth
  pub same : IsPermutation history (in_order whole)
  pub stands : Stands [] whole
  pub closed : open_in [] whole ≡ []
  pub done : List Settlement
  pub growths : List Growth
  pub waits : Waits paths stack growths
  pub parts : in_order whole ≡ done ++ rest_of growths
  pub numbered : AreNumbers history numbers done

-- the numbers are those of all settlements, in the order of their paths, and these are an accepted tree
pub record IsOrder (network : Network) (history : List Settlement) (numbers : List ℕ) : Type 0 where
  pub ordered : List Settlement
  pub same : IsPermutation history ordered
  pub in_order : AllPairs (λ (a b : Settlement). Precedes a.event.path b.event.path) ordered
  pub accepted : AreAcceptedTree network (kept_of network history) ordered
  pub numbered : AreNumbers history numbers ordered

-- ---- nodes

-- the node of the event of that number
unfoldable pub numbered_node : Network → Option Solution → List Settled → ℕ → Node
numbered_node network plan events number =
    node_of network (planned plan) (outcome_of (slice_index_or events number (record { teller = 0; place = 0; look = Split (record { left = 0; right = 0; link = 0; lag = pos 0 }) })).look)

abbrev pub left_nodes : Network → Option Solution → List Settled → List ℕ → List Node
left_nodes network plan events numbers = map (numbered_node network plan events) numbers

-- the numbers are different ones of events that can be given their nodes
pub record IsSpelling (network : Network) (plan : Option Solution) (events : List Settled) (numbers : List ℕ) : Type 0 where
  pub planned : IsPlan network plan
  pub within : All (λ number. number < length events) numbers
  pub different : AllPairs ◌≢◌ numbers
  pub ties : All (λ number. (d : Settled) → HasTie network plan (outcome_of (slice_index_or events number d).look)) numbers
