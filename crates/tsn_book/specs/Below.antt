-- Events that are settled one after another, and a walk that settles each node it comes to.
--     settlements_by                     events as those of a teller
--     next_path, path_after              where a walk goes on, and where it stands after some outcomes
--     events_below                       what it settles
--     IsFaultAt                          why an event of a list isn't settled
--     IsAbove                            a place and its parent
use Rattle.std.specs.Prelude.{◌≡◌, ℕ, ◌+◌, ◌<◌, List, [], ◌∷◌, map, slice_get, IsSomeAnd}
use Rattle.std.specs.List.{slice_index_or}
use Rattle.tsn_model.specs.declared.Triple.{Triple}
use Rattle.tsn_model.specs.declared.Side.{Side}
use Rattle.tsn_model.specs.declared.Side.TheVariants.{Left, Right}
use Rattle.tsn_model.specs.declared.Decision.{Decision}
use Rattle.tsn_model.specs.Network.{Network}
use Rattle.tsn_model.specs.Certificate.{decided}
use Rattle.tsn_model.specs.Places.{pending}
use Rattle.tsn_model.specs.Search.{Outcome, split, solved, pruned, tied, refuted, Event, Settlement}
use Rattle.tsn_model.specs.Walk.{path_made, IsPlaceOf}
use Rattle.tsn_book.specs.Book.{IsFault}
use Rattle.tsn_book.specs.declared.fault.BookFault.{BookFault}

-- each with that teller
abbrev pub settlements_by : ℕ → List Event → List Settlement
settlements_by teller events = map (λ event. record { teller = teller; event = event }) events

-- why the event of that number isn't settled after that history
abbrev pub IsFaultAt : Network → ℕ → List Settlement → List Event → ℕ → BookFault → Type 0
IsFaultAt network limit history events number fault = IsSomeAnd (slice_get events number) (λ event. IsFault network limit history event fault)

-- ---- a walk, depth first

-- after a leaf: the right side of the path's last left turn, or the root where it has none
unfoldable pub after_leaf : List Decision → List Decision
after_leaf path = slice_index_or (pending path) 0 []

-- after a split its Left child is next
unfoldable pub next_path : List Decision → Outcome → List Decision
next_path path (split triple) = decided path triple Left
next_path path (solved offsets bound leaf chains) = after_leaf path
next_path path (pruned bound leaf) = after_leaf path
next_path path (tied bound leaf chains) = after_leaf path
next_path path (refuted leaf) = after_leaf path

-- where a walk from the path stands after these outcomes
unfoldable pub path_after : List Decision → List Outcome → List Decision
path_after path [] = path
path_after path (outcome ∷ outcomes) = path_after (next_path path outcome) outcomes

-- the events of these outcomes: the first at the path, each further one where the walk went on
unfoldable pub events_below : List Decision → List Outcome → List Event
events_below path [] = []
events_below path (outcome ∷ outcomes) = record { path = path; outcome = outcome } ∷ events_below (next_path path outcome) outcomes

-- ---- places

-- the place's path goes one decision on from its parent's, to that side; the place after a Left child is the Right child's
pub record IsAbove (history : List Settlement) (place parent : ℕ) (side : Side) : Type 0 where
  pub before : parent < place
  pub at_parent : IsPlaceOf history (path_made history parent) parent
  pub triple : Triple
  pub is : path_made history place ≡ decided (path_made history parent) triple side
  pub sibling : side ≡ Left → IsPlaceOf history (decided (path_made history parent) triple Right) (place + 1)
