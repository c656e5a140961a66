-- A list of nodes fills the root's place exactly where it spells an accepted tree.
use Rattle.std.proofs.Common.{◌≡◌, ℕ, List, [], ◌∷◌, ◌++◌, refl, sym, ap, ◌∙◌, subst, append_assoc}
use Rattle.std.specs.List.{flat_map}
use Rattle.std.proofs.lemmas.List.{append-nil}
use Rattle.tsn_model.specs.declared.Triple.{Triple}
use Rattle.tsn_model.specs.declared.Side.TheVariants.{Left, Right}
use Rattle.tsn_model.specs.declared.Decision.{Decision}
use Rattle.tsn_model.specs.Certificate.{Leaf, Tree, leaf, tie, branch, AcceptsBy, Node, split_node, leaf_node, tie_node, preorder, Spells, decided}
use Rattle.tsn_model.specs.Places.{opened_by, next_places, Fills, places_from, places_after, AreRight, right_of, pending_from, pending}

-- ---- trees for all open places

-- a tree for each place, accepted there
abbrev AcceptsAll : (List Decision → Node → Type 0) → List (List Decision) → List Tree → Type 0
AcceptsAll NodeRight [] [] = Unit {0}
AcceptsAll NodeRight [] (tree ∷ trees) = ⊥
AcceptsAll NodeRight (path ∷ paths) [] = ⊥
AcceptsAll NodeRight (path ∷ paths) (tree ∷ trees) = AcceptsBy NodeRight path tree × AcceptsAll NodeRight paths trees

-- the trees' nodes, one tree after another
record Forest (NodeRight : List Decision → Node → Type 0) (paths : List (List Decision)) (nodes : List Node) : Type 0 where
  trees : List Tree
  accepts : AcceptsAll NodeRight paths trees
  spelled : nodes ≡ flat_map preorder trees

leaf_forest : (NodeRight : List Decision → Node → Type 0) (path : List Decision) (paths : List (List Decision)) (proof : Leaf) (nodes : List Node) → NodeRight path (leaf_node proof)
    → Forest NodeRight paths nodes → Forest NodeRight (path ∷ paths) (leaf_node proof ∷ nodes)
unfolding preorder
leaf_forest NodeRight path paths proof nodes proves forest = record {
  trees = leaf proof ∷ forest.trees;
  accepts = (proves, forest.accepts);
  spelled = ap (λ ns. leaf_node proof ∷ ns) forest.spelled;
}

tie_forest : (NodeRight : List Decision → Node → Type 0) (path : List Decision) (paths : List (List Decision)) (proof : Leaf) (chains : List (List ℕ)) (nodes : List Node) → NodeRight path (tie_node proof chains)
    → Forest NodeRight paths nodes → Forest NodeRight (path ∷ paths) (tie_node proof chains ∷ nodes)
unfolding preorder
tie_forest NodeRight path paths proof chains nodes ties forest = record {
  trees = tie proof chains ∷ forest.trees;
  accepts = (ties, forest.accepts);
  spelled = ap (λ ns. tie_node proof chains ∷ ns) forest.spelled;
}

branch_forest : (NodeRight : List Decision → Node → Type 0) (path : List Decision) (paths : List (List Decision)) (triple : Triple) (nodes : List Node) → NodeRight path (split_node triple)
    → (trees : List Tree) → AcceptsAll NodeRight (decided path triple Left ∷ decided path triple Right ∷ paths) trees → nodes ≡ flat_map preorder trees
    → Forest NodeRight (path ∷ paths) (split_node triple ∷ nodes)
unfolding preorder
branch_forest NodeRight path paths triple nodes conflict [] accepts spelled = absurd accepts
branch_forest NodeRight path paths triple nodes conflict (first ∷ []) accepts spelled = absurd accepts.1
branch_forest NodeRight path paths triple nodes conflict (first ∷ second ∷ trees) accepts spelled = record {
  trees = branch triple first second ∷ trees;
  accepts = ((conflict, accepts.0, accepts.1.0), accepts.1.1);
  spelled = ap (λ ns. split_node triple ∷ ns) (spelled ∙ sym (append_assoc (preorder first) (preorder second) (flat_map preorder trees)));
}

fills_forest : (NodeRight : List Decision → Node → Type 0) (paths : List (List Decision)) (nodes : List Node) → Fills NodeRight paths nodes → Forest NodeRight paths nodes
unfolding next_places opened_by
fills_forest NodeRight [] [] fills = record { trees = []; accepts = tt; spelled = refl }
fills_forest NodeRight (path ∷ paths) [] fills = absurd fills
fills_forest NodeRight [] (node ∷ nodes) fills = absurd fills
fills_forest NodeRight (path ∷ paths) (leaf_node proof ∷ nodes) fills = leaf_forest NodeRight path paths proof nodes fills.0 (fills_forest NodeRight paths nodes fills.1)
fills_forest NodeRight (path ∷ paths) (tie_node proof chains ∷ nodes) fills = tie_forest NodeRight path paths proof chains nodes fills.0 (fills_forest NodeRight paths nodes fills.1)
fills_forest NodeRight (path ∷ paths) (split_node triple ∷ nodes) fills =
    let below = fills_forest NodeRight (decided path triple Left ∷ decided path triple Right ∷ paths) nodes fills.1 in
    branch_forest NodeRight path paths triple nodes fills.0 below.trees below.accepts below.spelled

only_tree : (NodeRight : List Decision → Node → Type 0) (path : List Decision) (nodes : List Node) (trees : List Tree) → AcceptsAll NodeRight (path ∷ []) trees → nodes ≡ flat_map preorder trees
    → (tree : Tree) × Spells nodes tree × AcceptsBy NodeRight path tree
only_tree NodeRight path nodes [] accepts spelled = absurd accepts
only_tree NodeRight path nodes (tree ∷ []) accepts spelled = (tree, spelled ∙ append-nil (preorder tree), accepts.0)
only_tree NodeRight path nodes (tree ∷ other ∷ trees) accepts spelled = absurd accepts.1

-- nodes that fill the place at the end of a path spell an accepted tree
pub filled_tree : (NodeRight : List Decision → Node → Type 0) (path : List Decision) (nodes : List Node) → Fills NodeRight (path ∷ []) nodes → (tree : Tree) × Spells nodes tree × AcceptsBy NodeRight path tree
filled_tree NodeRight path nodes fills =
    let forest = fills_forest NodeRight (path ∷ []) nodes fills in
    only_tree NodeRight path nodes forest.trees forest.accepts forest.spelled

-- an accepted tree's nodes fill its place
tree_fills : (NodeRight : List Decision → Node → Type 0) (tree : Tree) (path : List Decision) (paths : List (List Decision)) (rest : List Node) → AcceptsBy NodeRight path tree
    → Fills NodeRight paths rest → Fills NodeRight (path ∷ paths) (preorder tree ++ rest)
unfolding preorder next_places opened_by
tree_fills NodeRight (leaf proof) path paths rest accepts fills = (accepts, fills)
tree_fills NodeRight (tie proof chains) path paths rest accepts fills = (accepts, fills)
tree_fills NodeRight (branch triple first second) path paths rest accepts fills =
    let right = tree_fills NodeRight second (decided path triple Right) paths rest accepts.2 fills in
    let left = tree_fills NodeRight first (decided path triple Left) (decided path triple Right ∷ paths) (preorder second ++ rest) accepts.1 right in
    (accepts.0, subst (Fills NodeRight (decided path triple Left ∷ decided path triple Right ∷ paths)) (sym (append_assoc (preorder first) (preorder second) rest)) left)

pub tree_filled : (NodeRight : List Decision → Node → Type 0) (path : List Decision) (nodes : List Node) (tree : Tree) → Spells nodes tree → AcceptsBy NodeRight path tree → Fills NodeRight (path ∷ []) nodes
tree_filled NodeRight path nodes tree spells accepts =
    subst (Fills NodeRight (path ∷ [])) (append-nil (preorder tree) ∙ sym spells) (tree_fills NodeRight tree path [] [] accepts tt)

-- ---- the walk, node by node

pub fills_from_right : (NodeRight : List Decision → Node → Type 0) (paths : List (List Decision)) (nodes : List Node) → AreRight NodeRight paths nodes → places_from paths nodes ≡ [] → Fills NodeRight paths nodes
unfolding places_from
fills_from_right NodeRight [] [] right filled = tt
fills_from_right NodeRight (path ∷ paths) [] right filled = cc
fills_from_right NodeRight [] (node ∷ nodes) right filled = absurd right
fills_from_right NodeRight (path ∷ paths) (node ∷ nodes) right filled = (right.0, fills_from_right NodeRight (next_places (path ∷ paths) node) nodes right.1 filled)

pub right_from_fills : (NodeRight : List Decision → Node → Type 0) (paths : List (List Decision)) (nodes : List Node) → Fills NodeRight paths nodes → AreRight NodeRight paths nodes × (places_from paths nodes ≡ [])
unfolding places_from
right_from_fills NodeRight [] [] fills = (tt, refl)
right_from_fills NodeRight (path ∷ paths) [] fills = absurd fills
right_from_fills NodeRight [] (node ∷ nodes) fills = absurd fills
right_from_fills NodeRight (path ∷ paths) (node ∷ nodes) fills =
    let rest = right_from_fills NodeRight (next_places (path ∷ paths) node) nodes fills.1 in
    ((fills.0, rest.0), rest.1)

-- what fills the places is right for its first nodes, and its rest fills the places after them
pub fills-append : (NodeRight : List Decision → Node → Type 0) (paths : List (List Decision)) (first rest : List Node) → Fills NodeRight paths (first ++ rest)
    → AreRight NodeRight paths first × Fills NodeRight (places_from paths first) rest
unfolding places_from
fills-append NodeRight paths [] rest fills = (tt, fills)
fills-append NodeRight [] (node ∷ first) rest fills = absurd fills
fills-append NodeRight (path ∷ paths) (node ∷ first) rest fills =
    let more = fills-append NodeRight (next_places (path ∷ paths) node) first rest fills.1 in
    ((fills.0, more.0), more.1)

-- one more node that is right at the first open place
pub places_from-snoc : (paths : List (List Decision)) (first : List Node) (node : Node) → places_from paths (first ++ node ∷ []) ≡ next_places (places_from paths first) node
unfolding places_from
places_from-snoc paths [] node = refl
places_from-snoc paths (other ∷ first) node = places_from-snoc (next_places paths other) first node

pub places_after-snoc : (first : List Node) (node : Node) → places_after (first ++ node ∷ []) ≡ next_places (places_after first) node
unfolding places_after
places_after-snoc first node = places_from-snoc ([] ∷ []) first node

pub places_after-fills : (nodes : List Node) (places : List (List Decision)) → places_after nodes ≡ places → places_from ([] ∷ []) nodes ≡ places
unfolding places_after
places_after-fills nodes places is = is

pub right-snoc : (NodeRight : List Decision → Node → Type 0) (paths : List (List Decision)) (first : List Node) (node : Node) (path : List Decision) (rest : List (List Decision)) → AreRight NodeRight paths first
    → places_from paths first ≡ path ∷ rest → NodeRight path node → AreRight NodeRight paths (first ++ node ∷ [])
unfolding places_from
right-snoc NodeRight paths [] node path rest right here is_right =
    subst (λ ps. AreRight NodeRight ps (node ∷ [])) (sym here) (is_right, one_right NodeRight (next_places (path ∷ rest) node))
  where
    one_right : (NodeRight : List Decision → Node → Type 0) (paths : List (List Decision)) → AreRight NodeRight paths []
    one_right NodeRight [] = tt
    one_right NodeRight (p ∷ ps) = tt
right-snoc NodeRight [] (other ∷ first) node path rest right here is_right = absurd right
right-snoc NodeRight (p ∷ ps) (other ∷ first) node path rest right here is_right =
    (right.0, right-snoc NodeRight (next_places (p ∷ ps) other) first node path rest right.1 here is_right)

-- ---- the places that wait

pending_from-snoc : (front path : List Decision) (decision : Decision) → pending_from front (path ++ decision ∷ []) ≡ right_of (front ++ path) decision.triple decision.side ++ pending_from front path
unfolding pending_from
pending_from-snoc front [] decision =
    ap (λ f. right_of f decision.triple decision.side) (sym (append-nil front)) ∙ sym (append-nil (right_of (front ++ []) decision.triple decision.side))
pending_from-snoc front (first ∷ path) decision =
    let right : List (List Decision) = right_of front first.triple first.side in
    let inner : List (List Decision) = pending_from (front ++ first ∷ []) path in
    ap (λ ps. ps ++ right) (pending_from-snoc (front ++ first ∷ []) path decision)
    ∙ append_assoc (right_of ((front ++ first ∷ []) ++ path) decision.triple decision.side) inner right
    ∙ ap (λ f. right_of f decision.triple decision.side ++ (inner ++ right)) (append_assoc front (first ∷ []) path)

pub pending-nil : pending [] ≡ []
unfolding pending pending_from
pending-nil = refl

-- a left turn adds its right side
pub pending-left : (path : List Decision) (triple : Triple) → pending (decided path triple Left) ≡ decided path triple Right ∷ pending path
unfolding pending decided right_of
pending-left path triple = pending_from-snoc [] path (record { triple = triple; side = Left })

-- a right turn adds nothing
pub pending-right : (path : List Decision) (triple : Triple) → pending (decided path triple Right) ≡ pending path
unfolding pending decided right_of
pending-right path triple = pending_from-snoc [] path (record { triple = triple; side = Right })
