-- A certificate's nodes, read one after another: each stands at the first open place, and opens or closes places.
--     next_places                      the places after a node at an open place
--     places_after                     the open places after the first nodes of a list
--     AreRight, Fills                  nodes that are right where they stand, and nodes that leave no place open
--     pending                          the places that wait while a path is walked
use Rattle.std.specs.Prelude.{List, [], ◌∷◌, ◌++◌}
use Rattle.tsn_model.specs.declared.Triple.{Triple}
use Rattle.tsn_model.specs.declared.Side.{Side}
use Rattle.tsn_model.specs.declared.Side.TheVariants.{Left, Right}
use Rattle.tsn_model.specs.declared.Decision.{Decision}
use Rattle.tsn_model.specs.Certificate.{Node, split_node, leaf_node, tie_node, decided}

-- the places that a node opens below it
unfoldable pub opened_by : List Decision → Node → List (List Decision)
opened_by path (split_node triple) = decided path triple Left ∷ decided path triple Right ∷ []
opened_by path (leaf_node leaf) = []
opened_by path (tie_node leaf chains) = []

-- the open places after a node at the first of them
unfoldable pub next_places : List (List Decision) → Node → List (List Decision)
next_places [] node = []
next_places (path ∷ paths) node = opened_by path node ++ paths

-- the nodes fill the open places, each node right at the first place that is open before it, and none is left over
abbrev pub Fills : (List Decision → Node → Type 0) → List (List Decision) → List Node → Type 0
Fills NodeRight [] [] = Unit {0}
Fills NodeRight (path ∷ paths) [] = ⊥
Fills NodeRight [] (node ∷ nodes) = ⊥
Fills NodeRight (path ∷ paths) (node ∷ nodes) = NodeRight path node × Fills NodeRight (next_places (path ∷ paths) node) nodes

-- the open places after these nodes
unfoldable pub places_from : List (List Decision) → List Node → List (List Decision)
places_from paths [] = paths
places_from paths (node ∷ nodes) = places_from (next_places paths node) nodes

unfoldable pub places_after : List Node → List (List Decision)
places_after nodes = places_from ([] ∷ []) nodes

-- the nodes are right, each at the first place that is open before it
abbrev pub AreRight : (List Decision → Node → Type 0) → List (List Decision) → List Node → Type 0
AreRight NodeRight paths [] = Unit {0}
AreRight NodeRight [] (node ∷ nodes) = ⊥
AreRight NodeRight (path ∷ paths) (node ∷ nodes) = NodeRight path node × AreRight NodeRight (next_places (path ∷ paths) node) nodes

-- ---- the places that wait while the place at the end of a path is open

-- a left turn leaves its right side open
unfoldable pub right_of : List Decision → Triple → Side → List (List Decision)
right_of path triple Left = decided path triple Right ∷ []
right_of path triple Right = []

unfoldable pub pending_from : List Decision → List Decision → List (List Decision)
pending_from front [] = []
pending_from front (decision ∷ rest) = pending_from (front ++ decision ∷ []) rest ++ right_of front decision.triple decision.side

-- the right sides of the path's left turns, the last one first
unfoldable pub pending : List Decision → List (List Decision)
pending path = pending_from [] path
