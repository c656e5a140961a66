-- The places of a search's tree: their paths, what was settled, and what is known of each place.
--     paths_of, path_at        the places' paths
--     history_of               what was settled, with the paths
--     IsPlaced, IsTree         what is known of a place, and of all of them
--     IsPathEnd                   where a walk along a path ends
--     AreClosed                where nothing is open any longer
use Rattle.std.specs.Prelude.{Bool, true, ◌&&◌, ◌≢◌, ◌≡◌, ℕ, ◌<◌, ◌≤◌, ◌+◌, ◌⊎◌, List, [], ◌∷◌, ◌++◌, map, fold, length, All, Contains, Some, None, position, false, slice_get}
use Rattle.std.specs.List.{slice_index_or}
use Rattle.tsn_model.specs.declared.Triple.{Triple}
use Rattle.tsn_model.specs.declared.Side.TheVariants.{Left, Right}
use Rattle.tsn_model.specs.declared.Decision.{Decision}
use Rattle.tsn_model.specs.Network.{Network}
use Rattle.tsn_model.specs.Certificate.{decided}
use Rattle.tsn_model.specs.Search as search
use Rattle.tsn_model.specs.Search.{Settlement, path_eq, made_paths, open_paths, is_settled, ends_of, PathBefore, IsLegal}
use Rattle.tsn_conflict.specs.Outcome.{outcome_of}
use Rattle.tsn_book.specs.declared.statuses.Origin.{Origin}
use Rattle.tsn_book.specs.declared.statuses.Origin.TheVariants.{Root, Child}
use Rattle.tsn_book.specs.declared.statuses.Status.{Status}
use Rattle.tsn_book.specs.declared.statuses.Status.TheVariants.{Open, Split, Leaf}
use Rattle.tsn_book.specs.declared.log.Settled.{Settled}
use Rattle.tsn_book.specs.declared.arena.PathEnd.{PathEnd}
use Rattle.tsn_book.specs.declared.arena.PathEnd.TheVariants.{Open as AtOpen, Settled as AtSettled, Outside}
use Rattle.tsn_book.specs.declared.arena.Tree.{Tree}

-- ---- paths

unfoldable pub path_at : List (List Decision) → ℕ → List Decision
path_at paths place = slice_index_or paths place []

-- the path of a place, after the paths of the places before it
unfoldable pub path_from : List (List Decision) → Origin → List Decision
path_from paths Root = []
path_from paths (Child parent decision) = path_at paths parent ++ decision ∷ []

unfoldable pub with_path : List (List Decision) → Origin → List (List Decision)
with_path paths origin = paths ++ path_from paths origin ∷ []

-- the places' paths
unfoldable pub paths_of : List Origin → List (List Decision)
paths_of origins = fold with_path [] origins

-- ---- what was settled

unfoldable pub settlement_of : List (List Decision) → Settled → Settlement
settlement_of paths settled = record { teller = settled.teller; event = record { path = path_at paths settled.place; outcome = outcome_of settled.look } }

unfoldable pub history_of : List Origin → List Settled → List Settlement
history_of origins events = map (settlement_of (paths_of origins)) events

-- the event of that number settled the path so
pub record IsEvent (history : List Settlement) (event : ℕ) (path : List Decision) (outcome : search.Outcome) : Type 0 where
  pub within : event < length history
  pub there : (teller : ℕ) × (slice_get history event ≡ Some (record { teller = teller; event = record { path = path; outcome = outcome } }))

-- what is known of a place
abbrev pub IsPlaced : List (List Decision) → List Settlement → ℕ → Status → Type 0
IsPlaced paths history place Open = is_settled history (path_at paths place) ≡ false
IsPlaced paths history place (Split triple children event) =
    IsEvent history event (path_at paths place) (search.split triple) × (children + 1 < length paths)
    × (path_at paths children ≡ decided (path_at paths place) triple Left) × (path_at paths (children + 1) ≡ decided (path_at paths place) triple Right)
    × (place < children)
IsPlaced paths history place (Leaf event) =
    (outcome : search.Outcome) × IsEvent history event (path_at paths place) outcome × (ends_of (path_at paths place) outcome ≡ path_at paths place ∷ [])

-- a parent stands before its children
abbrev pub IsAfterParent : ℕ → Origin → Type 0
IsAfterParent place Root = Unit {0}
IsAfterParent place (Child parent decision) = parent < place

-- the settlements are a legal history, the places are the paths that it made, and each stands as it says
pub record IsTree (network : Network) (origins : List Origin) (statuses : List Status) (events : List Settled) : Type 0 where
  pub legal : IsLegal network (history_of origins events)
  pub made : paths_of origins ≡ made_paths (history_of origins events)
  pub counted : length statuses ≡ length origins
  pub placed : (place : ℕ) → place < length origins → IsPlaced (paths_of origins) (history_of origins events) place (slice_index_or statuses place Open)
  pub within : All (λ settled. settled.place < length origins) events
  pub parents : (place : ℕ) → place < length origins → IsAfterParent place (slice_index_or origins place Root)

-- the same of an arena
abbrev pub IsArena : Tree → Type 0
IsArena tree = IsTree tree.network tree.places.origins tree.places.statuses tree.events.items

-- what was settled in an arena, and the path of a place
abbrev pub settled_in : Tree → List Settlement
settled_in tree = history_of tree.places.origins tree.events.items

abbrev pub path_in : Tree → ℕ → List Decision
path_in tree place = path_at (paths_of tree.places.origins) place

-- the outcome ends its path
abbrev pub IsLeafOutcome : search.Outcome → Type 0
IsLeafOutcome (search.split triple) = ⊥
IsLeafOutcome (search.solved offsets bound leaf chains) = Unit {0}
IsLeafOutcome (search.pruned bound leaf) = Unit {0}
IsLeafOutcome (search.tied bound leaf chains) = Unit {0}
IsLeafOutcome (search.refuted leaf) = Unit {0}

-- the place exists and is open
pub record IsOpenPlace (statuses : List Status) (place : ℕ) : Type 0 where
  pub within : place < length statuses
  pub is_open : slice_index_or statuses place Open ≡ Open

-- where a walk along the path ends; outside an open place the path isn't open, and the number is that of the settlement which settled it, if one did
abbrev pub IsPathEnd : List Origin → List Status → List Settled → List Decision → PathEnd → Type 0
IsPathEnd origins statuses events path (AtOpen place) = IsOpenPlace statuses place × (path_at (paths_of origins) place ≡ path)
IsPathEnd origins statuses events path (AtSettled event) =
    (Contains (open_paths (history_of origins events)) path → ⊥) × (position (λ settlement. path_eq settlement.event.path path) (history_of origins events) ≡ Some event)
IsPathEnd origins statuses events path Outside =
    (Contains (open_paths (history_of origins events)) path → ⊥) × (position (λ settlement. path_eq settlement.event.path path) (history_of origins events) ≡ None)

-- a look waits, and there is room for a split
pub record HasRoom (tree : Tree) : Type 0 where
  pub places : 1 ≤ tree.places.room
  pub waiting : 1 ≤ length tree.events.waiting

-- ---- what is closed

abbrev pub flag_at : List Bool → ℕ → Bool
flag_at closed place = slice_index_or closed place false

-- whether nothing is open at a place and below it: a leaf is closed, and a split where both its children are
abbrev pub ClosedAt : List Bool → ℕ → Status → Type 0
ClosedAt closed place Open = flag_at closed place ≡ false
ClosedAt closed place (Split triple children event) = flag_at closed place ≡ (flag_at closed children && flag_at closed (children + 1))
ClosedAt closed place (Leaf event) = flag_at closed place ≡ true

pub record AreClosed (statuses : List Status) (closed : List Bool) : Type 0 where
  pub counted : length closed ≡ length statuses
  pub each : (place : ℕ) → place < length statuses → ClosedAt closed place (slice_index_or statuses place Open)

-- the open paths that don't begin with the path come after it
abbrev pub IsAhead : List Settlement → List Decision → Type 0
IsAhead history path = (other : List Decision) → Contains (open_paths history) other → ((rest : List Decision) × (other ≡ path ++ rest)) ⊎ PathBefore path other

-- the child is one of the two that the place was split into
pub record IsChildOf (statuses : List Status) (place child : ℕ) : Type 0 where
  pub triple : Triple
  pub children : ℕ
  pub event : ℕ
  pub stands : slice_index_or statuses place Open ≡ Split triple children event
  pub which : (child ≡ children) ⊎ (child ≡ children + 1)

-- the place was split into two, of which the child is one, and the first has the number `children`
pub record IsParent (statuses : List Status) (place children child : ℕ) : Type 0 where
  pub of : IsChildOf statuses place child
  pub first : of.children ≡ children
  pub before : place < children
  pub within : children + 1 < length statuses

-- the place became a leaf, and isn't marked as closed yet
pub record IsNewLeaf (statuses : List Status) (closed : List Bool) (place : ℕ) : Type 0 where
  pub counted : length closed ≡ length statuses
  pub within : place < length statuses
  pub event : ℕ
  pub stands : slice_index_or statuses place Open ≡ Leaf event
  pub unmarked : flag_at closed place ≡ false
  pub others : (other : ℕ) → other < length statuses → other ≢ place → ClosedAt closed other (slice_index_or statuses other Open)

-- the place was marked last, and what is above it isn't looked at yet
pub record IsClosing (statuses : List Status) (closed : List Bool) (place : ℕ) : Type 0 where
  pub counted : length closed ≡ length statuses
  pub within : place < length statuses
  pub marked : flag_at closed place ≡ true
  pub others : (other : ℕ) → other < length statuses → (IsChildOf statuses other place → ⊥) → ClosedAt closed other (slice_index_or statuses other Open)
  pub above : (other : ℕ) → IsChildOf statuses other place → flag_at closed other ≡ false

-- the place was split into two, which are both closed
pub record IsParentClosed (statuses : List Status) (closed : List Bool) (parent place : ℕ) : Type 0 where
  pub of : IsChildOf statuses parent place
  pub before : parent < of.children
  pub left : flag_at closed of.children ≡ true
  pub right : flag_at closed (of.children + 1) ≡ true
