-- The walk of the code over the nodes, as the walk of the definitions.
use Rattle.std.proofs.Common.{◌≡◌, ◌≢◌, ℕ, zero, suc, ◌+◌, ◌<◌, ◌≤◌, List, [], ◌∷◌, ◌++◌, map, length, get_or, take, Bool, true, false, Some, sym, ap, ◌∙◌, subst, arith, refl, MatchBool, Option}
use Rattle.std.specs.Prelude.{slice_get}
use Rattle.std.proofs.lemmas.List.{take_more, take_all, get_or-map, length-map}
use Rattle.tsn_model.specs.declared.Triple.{Triple}
use Rattle.tsn_model.specs.declared.Side.TheVariants.{Left}
use Rattle.tsn_model.specs.declared.Decision.{Decision}
use Rattle.tsn_model.specs.Network.{Network}
use Rattle.tsn_model.specs.Certificate as tree
use Rattle.tsn_model.specs.Certificate.{Leaf, split_node, leaf_node, tie_node, IsNodeShown, decided}
use Rattle.tsn_cert.specs.declared.cert.Node.{Node}
use Rattle.tsn_cert.specs.Node.{tree_node}
use Rattle.tsn_model.specs.Places.{opened_by, next_places, Fills, places_from, places_after, AreRight, pending}
use Rattle.tsn_check.specs.Turns.{places_at}
use Rattle.tsn_check.specs.Faults.{IsWrongTree, IsWrongNode}
use Rattle.tsn_check.specs.declared.why.NodeFault.{NodeFault}
use Rattle.tsn_check.specs.declared.why.TreeFault.TheVariants as why
use Rattle.tsn_model.proofs.Places.{right-snoc, places_after-snoc, places_after-fills, fills_from_right, pending-nil, pending-left}

pub start_places : places_after [] ≡ [] ∷ pending []
unfolding places_after places_from
start_places = ap (λ ps. [] ∷ ps) (sym pending-nil)

pub node_there : (nodes : List Node) (i : ℕ) (d : Node) → i < length nodes → slice_get (map tree_node nodes) i ≡ Some (tree_node (get_or nodes i d))
node_there [] i d below = absurd (omega arith)
node_there (node ∷ nodes) zero d below = refl
node_there (node ∷ nodes) (suc i) d below = node_there nodes i d (omega arith)

-- the walk as far as the node at i, and past it
pub record WalkedTo (network : Network) (target : ℕ) (planned : Option (List ℕ)) (nodes : List tree.Node) (i : ℕ) (places : List (List Decision)) : Type 0 where
  pub right : AreRight (IsNodeShown network target planned) ([] ∷ []) (take i nodes)
  pub leaves : places_after (take i nodes) ≡ places

pub walk_more : (network : Network) (target : ℕ) (planned : Option (List ℕ)) (nodes : List Node) (i : ℕ) (d : Node) (path : List Decision) → i < length nodes
    → AreRight (IsNodeShown network target planned) ([] ∷ []) (take i (map tree_node nodes)) → places_after (take i (map tree_node nodes)) ≡ path ∷ pending path → IsNodeShown network target planned path (tree_node (get_or nodes i d))
    → WalkedTo network target planned (map tree_node nodes) (i + 1) (next_places (path ∷ pending path) (tree_node (get_or nodes i d)))
walk_more network target planned nodes i d path below right here is_right =
    let node : tree.Node = tree_node (get_or nodes i d) in
    let done : List tree.Node = take i (map tree_node nodes) in
    let more : take (i + 1) (map tree_node nodes) ≡ done ++ node ∷ [] =
    take_more (map tree_node nodes) i (tree_node d) (omega (arith, length-map nodes tree_node)) ∙ ap (λ n. done ++ n ∷ []) (get_or-map tree_node nodes i d (tree_node d) below) in
    record {
      right = subst (AreRight (IsNodeShown network target planned) ([] ∷ [])) (sym more) (right-snoc (IsNodeShown network target planned) ([] ∷ []) done node path (pending path) right (places_after-fills done (path ∷ pending path) here) is_right);
      leaves = ap places_after more ∙ places_after-snoc done node ∙ ap (λ places. next_places places node) here;
    }

-- where a branch and a leaf lead
pub after_branch : (path : List Decision) (triple : Triple) → next_places (path ∷ pending path) (split_node triple) ≡ decided path triple Left ∷ pending (decided path triple Left)
unfolding next_places opened_by
after_branch path triple = ap (λ ps. decided path triple Left ∷ ps) (sym (pending-left path triple))

pub after_leaf : (path : List Decision) (proof : Leaf) (open' : Bool) (next : List Decision) → MatchBool open' (pending path ≡ next ∷ pending next) (pending path ≡ [])
    → next_places (path ∷ pending path) (leaf_node proof) ≡ places_at open' next
unfolding next_places opened_by
after_leaf path proof true next found = found
after_leaf path proof false next found = found

pub after_tie : (path : List Decision) (proof : Leaf) (chains : List (List ℕ)) (open' : Bool) (next : List Decision) → MatchBool open' (pending path ≡ next ∷ pending next) (pending path ≡ [])
    → next_places (path ∷ pending path) (tie_node proof chains) ≡ places_at open' next
unfolding next_places opened_by
after_tie path proof chains true next found = found
after_tie path proof chains false next found = found

pub all_filled : (network : Network) (target : ℕ) (planned : Option (List ℕ)) (nodes : List tree.Node) (i : ℕ) → length nodes ≤ i → AreRight (IsNodeShown network target planned) ([] ∷ []) (take i nodes) → places_after (take i nodes) ≡ [] → Fills (IsNodeShown network target planned) ([] ∷ []) nodes
all_filled network target planned nodes i past right filled =
    let all : take i nodes ≡ nodes = take_all i nodes past in
    fills_from_right (IsNodeShown network target planned) ([] ∷ []) nodes (subst (AreRight (IsNodeShown network target planned) ([] ∷ [])) all right) (places_after-fills nodes [] (sym (ap places_after all) ∙ filled))

-- ---- faults

-- a fault of the node where the walk stands is the first one
pub fault_there : (network : Network) (target : ℕ) (planned : Option (List ℕ)) (nodes : List tree.Node) (i : ℕ) (path : List Decision) (node : tree.Node) (fault : NodeFault) → AreRight (IsNodeShown network target planned) ([] ∷ []) (take i nodes)
    → places_after (take i nodes) ≡ path ∷ pending path → slice_get nodes i ≡ Some node → IsWrongNode network target planned path node fault
    → IsWrongTree network target planned nodes (why.Node i fault)
fault_there network target planned nodes i path node fault right here there is =
    (path, node, record { right_before = right; waiting = pending path; first_place = here; there = there }, is)

-- the nodes end and a place is open
pub unfinished_there : (network : Network) (target : ℕ) (planned : Option (List ℕ)) (nodes : List tree.Node) (i : ℕ) (path : List Decision) → length nodes ≤ i → AreRight (IsNodeShown network target planned) ([] ∷ []) (take i nodes)
    → places_after (take i nodes) ≡ path ∷ pending path → AreRight (IsNodeShown network target planned) ([] ∷ []) nodes × (places_after nodes ≢ [])
unfinished_there network target planned nodes i path past right here = grind (arith, take_all)
