-- A search's tree as far as it has grown: what is settled and what is open, in preorder.
use Rattle.std.proofs.Common.{◌≡◌, ℕ, List, [], ◌∷◌, ◌++◌, map, length, All, Contains, Bool, true, false, Option, ◌≢◌, refl, sym, ap, ◌∙◌, subst, arith, append_assoc, inl, inr}
use Rattle.std.specs.Prelude.{IsPermutation, if◌then◌else◌, ◌==◌}
use Rattle.std.proofs.lemmas.List.{length-append, map-append}
use Rattle.std.proofs.lemmas.List.Elements.{All-nil, All-cons, All-head, All-tail, Contains-append_cases, Contains-append_left, Contains-append_right}
use Rattle.std.proofs.lemmas.List.Sorted.{IsPermutation-refl, IsPermutation-sym, IsPermutation-trans, IsPermutation-cons, IsPermutation-to_front, IsPermutation-middle}
use Rattle.tsn_model.specs.declared.Triple.{Triple}
use Rattle.tsn_model.specs.declared.Side.TheVariants.{Left, Right}
use Rattle.tsn_model.specs.declared.Decision.{Decision}
use Rattle.tsn_model.specs.Network.{Network}
use Rattle.tsn_model.specs.Schedule.{target_of}
use Rattle.tsn_model.specs.Certificate.{Leaf, Tree, leaf, tie, branch, Node, split_node, leaf_node, tie_node, IsNodeFirst, AcceptsFirst, preorder, decided}
use Rattle.tsn_model.specs.Search.{Outcome, split, solved, pruned, tied, refuted, Settlement, children_of, made_paths, is_settled, open_paths, IsAllowed, IsLegal}
use Rattle.tsn_model.proofs.Lists.{Contains-cons_cases, Contains-nil}
use Rattle.tsn_model.specs.Order.{chains_until, node_of}
use Rattle.tsn_model.proofs.SearchLists.{Contains-one, length-Without}
use Rattle.tsn_model.proofs.Histories.{legal_induction, open_paths-snoc, open_but, open_but-Without, open_but_parts}

-- an open node, a settled leaf, or a settled branch with what grew below it
pub data Growth : Type 0 where
  open_place : Growth
  leaf_place : Settlement → Growth
  branch_place : Settlement → Triple → Growth → Growth → Growth

-- the settlements in preorder
unfoldable pub in_order : Growth → List Settlement
in_order open_place = []
in_order (leaf_place settlement) = settlement ∷ []
in_order (branch_place settlement triple first second) = settlement ∷ (in_order first ++ in_order second)

-- the open paths in preorder, below a path
unfoldable pub open_in : List Decision → Growth → List (List Decision)
open_in path open_place = path ∷ []
open_in path (leaf_place settlement) = []
open_in path (branch_place settlement triple first second) = open_in (decided path triple Left) first ++ open_in (decided path triple Right) second

-- each settlement stands at its own path, and a branch where it split
abbrev pub Stands : List Decision → Growth → Type 0
Stands path open_place = Unit {0}
Stands path (leaf_place settlement) = (settlement.event.path ≡ path) × (children_of settlement.event.path settlement.event.outcome ≡ [])
Stands path (branch_place settlement triple first second) =
    (settlement.event.path ≡ path) × (settlement.event.outcome ≡ split triple) × Stands (decided path triple Left) first × Stands (decided path triple Right) second

-- ---- one more settlement

-- the growth after a settlement at an open path: the settlement stands between two parts of the others, and its children where the path was
pub record Grown (path : List Decision) (old : Growth) (settlement : Settlement) : Type 0 where
  pub new : Growth
  pub stands : Stands path new
  pub earlier : List Settlement
  pub later : List Settlement
  pub was_settled : in_order old ≡ earlier ++ later
  pub is_settled : in_order new ≡ earlier ++ settlement ∷ later
  pub before : List (List Decision)
  pub after : List (List Decision)
  pub was_open : open_in path old ≡ before ++ settlement.event.path ∷ after
  pub is_open : open_in path new ≡ before ++ (children_of settlement.event.path settlement.event.outcome ++ after)

grow_leaf : (path : List Decision) (settlement : Settlement) → settlement.event.path ≡ path → children_of settlement.event.path settlement.event.outcome ≡ [] → Grown path open_place settlement
unfolding in_order open_in
grow_leaf path settlement here none = record {
  new = leaf_place settlement;
  stands = (here, none);
  earlier = [];
  later = [];
  was_settled = refl;
  is_settled = refl;
  before = [];
  after = [];
  was_open = ap (λ p. p ∷ []) (sym here);
  is_open = ap (λ children. children ++ []) (sym none);
}

grow_open : (path : List Decision) (settlement : Settlement) → settlement.event.path ≡ path → (outcome : Outcome) → settlement.event.outcome ≡ outcome → Grown path open_place settlement
unfolding in_order open_in children_of
grow_open path settlement here (split triple) is = record {
  new = branch_place settlement triple open_place open_place;
  stands = (here, is, tt, tt);
  earlier = [];
  later = [];
  was_settled = refl;
  is_settled = refl;
  before = [];
  after = [];
  was_open = ap (λ p. p ∷ []) (sym here);
  is_open = λ i. children_of (sym here i) (sym is i) ++ [];
}
grow_open path settlement here (solved offsets bound proof chains) is = grow_leaf path settlement here (ap (children_of settlement.event.path) is)
grow_open path settlement here (pruned bound proof) is = grow_leaf path settlement here (ap (children_of settlement.event.path) is)
grow_open path settlement here (tied bound proof chains) is = grow_leaf path settlement here (ap (children_of settlement.event.path) is)
grow_open path settlement here (refuted proof) is = grow_leaf path settlement here (ap (children_of settlement.event.path) is)

-- two lists end to end, where one of them falls into parts
split-left : {X : Type 0} (xs a m ys : List X) → xs ≡ a ++ m → xs ++ ys ≡ a ++ (m ++ ys)
split-left xs a m ys is = ap (λ z. z ++ ys) is ∙ append_assoc a m ys

split-right : {X : Type 0} (xs ys a m : List X) → ys ≡ a ++ m → xs ++ ys ≡ (xs ++ a) ++ m
split-right xs ys a m is = ap (λ z. xs ++ z) is ∙ sym (append_assoc xs a m)

grow_first : (path : List Decision) (root : Settlement) (triple : Triple) (first second : Growth) (settlement : Settlement) → Stands path (branch_place root triple first second)
    → Grown (decided path triple Left) first settlement → Grown path (branch_place root triple first second) settlement
unfolding in_order open_in
grow_first path root triple first second settlement stands part =
    let others : List Settlement = in_order second in
    let opens : List (List Decision) = open_in (decided path triple Right) second in
    let children : List (List Decision) = children_of settlement.event.path settlement.event.outcome in
    record {
      new = branch_place root triple part.new second;
      stands = (stands.0, stands.1, part.stands, stands.3);
      earlier = root ∷ part.earlier;
      later = part.later ++ others;
      was_settled = ap (λ xs. root ∷ xs) (split-left (in_order first) part.earlier part.later others part.was_settled);
      is_settled = ap (λ xs. root ∷ xs) (split-left (in_order part.new) part.earlier (settlement ∷ part.later) others part.is_settled);
      before = part.before;
      after = part.after ++ opens;
      was_open = split-left (open_in (decided path triple Left) first) part.before (settlement.event.path ∷ part.after) opens part.was_open;
      is_open = split-left (open_in (decided path triple Left) part.new) part.before (children ++ part.after) opens part.is_open
          ∙ ap (λ xs. part.before ++ xs) (append_assoc children part.after opens);
    }

grow_second : (path : List Decision) (root : Settlement) (triple : Triple) (first second : Growth) (settlement : Settlement) → Stands path (branch_place root triple first second)
    → Grown (decided path triple Right) second settlement → Grown path (branch_place root triple first second) settlement
unfolding in_order open_in
grow_second path root triple first second settlement stands part =
    let others : List Settlement = in_order first in
    let opens : List (List Decision) = open_in (decided path triple Left) first in
    let children : List (List Decision) = children_of settlement.event.path settlement.event.outcome in
    record {
      new = branch_place root triple first part.new;
      stands = (stands.0, stands.1, stands.2, part.stands);
      earlier = root ∷ (others ++ part.earlier);
      later = part.later;
      was_settled = ap (λ xs. root ∷ xs) (split-right others (in_order second) part.earlier part.later part.was_settled);
      is_settled = ap (λ xs. root ∷ xs) (split-right others (in_order part.new) part.earlier (settlement ∷ part.later) part.is_settled);
      before = opens ++ part.before;
      after = part.after;
      was_open = split-right opens (open_in (decided path triple Right) second) part.before (settlement.event.path ∷ part.after) part.was_open;
      is_open = split-right opens (open_in (decided path triple Right) part.new) part.before (children ++ part.after) part.is_open;
    }

-- a settlement at an open path grows the tree
pub grow : (path : List Decision) (old : Growth) (settlement : Settlement) → Stands path old → Contains (open_in path old) settlement.event.path → Grown path old settlement
unfolding open_in
grow path open_place settlement stands found = grow_open path settlement (sym (Contains-one path settlement.event.path found)) settlement.event.outcome refl
grow path (leaf_place other) settlement stands found = absurd (Contains-nil settlement.event.path found)
grow path (branch_place root triple first second) settlement stands found =
    elim (Contains-append_cases (open_in (decided path triple Left) first) (open_in (decided path triple Right) second) settlement.event.path found) [
      | inl in_first ↦ grow_first path root triple first second settlement stands (grow (decided path triple Left) first settlement stands.2 in_first)
      | inr in_second ↦ grow_second path root triple first second settlement stands (grow (decided path triple Right) second settlement stands.3 in_second)
    ]

-- ---- the growth of a legal history

-- a growth with the history's settlements, that has each open path open and no others
pub record GrowthOf (history : List Settlement) : Type 0 where
  pub growth : Growth
  pub stands : Stands [] growth
  pub same_settled : IsPermutation history (in_order growth)
  pub has_open : (path : List Decision) → Contains (open_paths history) path → Contains (open_in [] growth) path
  pub as_many_open : length (open_in [] growth) ≡ length (open_paths history)

start_growth : GrowthOf []
unfolding in_order open_in open_paths made_paths is_settled
start_growth = record {
  growth = open_place;
  stands = tt;
  same_settled = IsPermutation-refl [];
  has_open = λ path found. found;
  as_many_open = refl;
}

-- one more element among others that stand before and after it
inserted : {X : Type 0} (xs earlier later : List X) (x : X) → IsPermutation xs (earlier ++ later) → IsPermutation (xs ++ x ∷ []) (earlier ++ x ∷ later)
inserted xs earlier later x same =
    IsPermutation-trans (xs ++ x ∷ []) (x ∷ xs) (earlier ++ x ∷ later) (IsPermutation-to_front xs x)
    (IsPermutation-trans (x ∷ xs) (x ∷ (earlier ++ later)) (earlier ++ x ∷ later) (IsPermutation-cons x xs (earlier ++ later) same)
    (IsPermutation-sym (earlier ++ x ∷ later) (x ∷ (earlier ++ later)) (IsPermutation-middle earlier x later)))

step_growth : (network : Network) (history : List Settlement) (settlement : Settlement) → IsLegal network history → IsAllowed network history settlement.event → GrowthOf history → GrowthOf (history ++ settlement ∷ [])
step_growth network history settlement legal allowed of =
    let path : List Decision = settlement.event.path in
    let children : List (List Decision) = children_of path settlement.event.outcome in
    let grown : Grown [] of.growth settlement = grow [] of.growth settlement of.stands (of.has_open path allowed.is_open) in
    let now = open_paths-snoc network history settlement legal allowed in
    let gone = open_but-Without network history path legal allowed.is_open in
    record {
      growth = grown.new;
      stands = grown.stands;
      same_settled = subst (IsPermutation (history ++ settlement ∷ [])) (sym grown.is_settled)
          (inserted history grown.earlier grown.later settlement (subst (IsPermutation history) grown.was_settled of.same_settled));
      has_open = λ p found. subst (λ paths. Contains paths p) (sym grown.is_open)
          (elim (Contains-append_cases (open_but history path) children p (subst (λ paths. Contains paths p) now found)) [
            | inl still ↦
                let parts = open_but_parts history path p still in
                elim (Contains-append_cases grown.before (path ∷ grown.after) p (subst (λ paths. Contains paths p) grown.was_open (of.has_open p parts.0))) [
                  | inl before ↦ Contains-append_left grown.before (children ++ grown.after) p before
                  | inr from ↦ elim (Contains-cons_cases path grown.after p from) [
                    | inl same ↦ absurd (parts.1 same)
                    | inr after ↦ Contains-append_right grown.before (children ++ grown.after) p (Contains-append_right children grown.after p after)
                  ]
                ]
            | inr child ↦ Contains-append_right grown.before (children ++ grown.after) p (Contains-append_left children grown.after p child)
          ]);
      as_many_open =
          let one : length (open_in [] grown.new) ≡ length (grown.before ++ (children ++ grown.after)) = ap length grown.is_open in
          let two : length (open_in [] of.growth) ≡ length (grown.before ++ path ∷ grown.after) = ap length grown.was_open in
          let three : length (open_paths (history ++ settlement ∷ [])) ≡ length (open_but history path ++ children) = ap length now in
          let four = length-Without path (open_paths history) (open_but history path) gone in
          let many = of.as_many_open in
          omega (
            arith,
            one,
            two,
            three,
            four,
            many,
            length-append grown.before (children ++ grown.after),
            length-append children grown.after,
            length-append grown.before (path ∷ grown.after),
            length-append (open_but history path) children,
          );
    }

pub legal_growth : (network : Network) (history : List Settlement) → IsLegal network history → GrowthOf history
legal_growth network = legal_induction network GrowthOf start_growth (step_growth network)

-- ---- the tree of a growth with nothing open

-- the outcome's node is right at the end of its path, in a certificate of that plan
abbrev pub Backs : Network → Option (List ℕ) → List Decision → Outcome → Type 0
Backs network plan path outcome = IsNodeFirst network plan path (node_of network plan outcome)

-- an accepted tree whose nodes, in preorder, are those of the settlements
pub record TreeOf (network : Network) (plan : Option (List ℕ)) (path : List Decision) (settlements : List Settlement) : Type 0 where
  pub tree : Tree
  pub accepts : AcceptsFirst network plan path tree
  pub nodes : preorder tree ≡ map (λ (s : Settlement). node_of network plan s.event.outcome) settlements

-- what isn't a split has a node that closes its path
choice_closes : (b : Bool) (x y : Node) (triple : Triple) → x ≢ split_node triple → y ≢ split_node triple → (if b then x else y) ≢ split_node triple
choice_closes true x y triple first second = first
choice_closes false x y triple first second = second

leaf_closes : (proof : Leaf) (triple : Triple) → leaf_node proof ≢ split_node triple
leaf_closes proof triple same = cc

tie_closes : (proof : Leaf) (chains : List (List ℕ)) (triple : Triple) → tie_node proof chains ≢ split_node triple
tie_closes proof chains triple same = cc

node_closes : (network : Network) (plan : Option (List ℕ)) (path : List Decision) (outcome : Outcome) → children_of path outcome ≡ [] → (triple : Triple) → node_of network plan outcome ≢ split_node triple
unfolding node_of children_of
node_closes network plan path (split made) none triple = let clash : decided path made Left ∷ decided path made Right ∷ [] ≡ [] = none in cc
node_closes network plan path (solved offsets bound proof chains) none triple =
    choice_closes (bound == target_of network plan) (tie_node proof (chains_until plan offsets chains)) (leaf_node proof) triple
    (tie_closes proof (chains_until plan offsets chains) triple) (leaf_closes proof triple)
node_closes network plan path (pruned bound proof) none triple = leaf_closes proof triple
node_closes network plan path (tied bound proof chains) none triple =
    choice_closes (bound == target_of network plan) (tie_node proof chains) (leaf_node proof) triple (tie_closes proof chains triple) (leaf_closes proof triple)
node_closes network plan path (refuted proof) none triple = leaf_closes proof triple

closing_tree : (network : Network) (plan : Option (List ℕ)) (path : List Decision) (settlement : Settlement) (node : Node) → node_of network plan settlement.event.outcome ≡ node
    → ((triple : Triple) → node ≢ split_node triple) → IsNodeFirst network plan path node → TreeOf network plan path (settlement ∷ [])
unfolding preorder
closing_tree network plan path settlement (split_node triple) is closes right = absurd (closes triple refl)
closing_tree network plan path settlement (leaf_node proof) is closes right = record { tree = leaf proof; accepts = right; nodes = ap (λ n. n ∷ []) (sym is) }
closing_tree network plan path settlement (tie_node proof chains) is closes right = record { tree = tie proof chains; accepts = right; nodes = ap (λ n. n ∷ []) (sym is) }

-- nothing is in lists that end to end are empty
pub nil-left : {X : Type 0} (xs ys : List X) → xs ++ ys ≡ [] → xs ≡ []
nil-left [] ys none = refl
nil-left (x ∷ xs) ys none = let clash : x ∷ (xs ++ ys) ≡ [] = none in cc

pub nil-right : {X : Type 0} (xs ys : List X) → xs ++ ys ≡ [] → ys ≡ []
nil-right [] ys none = none
nil-right (x ∷ xs) ys none = let clash : x ∷ (xs ++ ys) ≡ [] = none in cc

All-left : {X : Type 0} (P : X → Type 0) (xs ys : List X) → All P (xs ++ ys) → All P xs
All-left P [] ys all = All-nil P
All-left P (x ∷ xs) ys all = All-cons P x xs (All-head P x (xs ++ ys) all) (All-left P xs ys (All-tail P x (xs ++ ys) all))

All-right : {X : Type 0} (P : X → Type 0) (xs ys : List X) → All P (xs ++ ys) → All P ys
All-right P [] ys all = all
All-right P (x ∷ xs) ys all = All-right P xs ys (All-tail P x (xs ++ ys) all)

abbrev BacksAll : Network → Option (List ℕ) → List Settlement → Type 0
BacksAll network plan settlements = All (λ (s : Settlement). Backs network plan s.event.path s.event.outcome) settlements

pub grown_tree : (network : Network) (plan : Option (List ℕ)) (path : List Decision) (growth : Growth) → Stands path growth → open_in path growth ≡ [] → BacksAll network plan (in_order growth) → TreeOf network plan path (in_order growth)
unfolding in_order open_in preorder node_of
grown_tree network plan path open_place stands none backs = let clash : path ∷ [] ≡ [] = none in cc
grown_tree network plan path (leaf_place settlement) stands none backs =
    let backed = λ (s : Settlement). Backs network plan s.event.path s.event.outcome in
    closing_tree network plan path settlement (node_of network plan settlement.event.outcome) refl
    (node_closes network plan settlement.event.path settlement.event.outcome stands.1)
    (subst (λ p. Backs network plan p settlement.event.outcome) stands.0 (All-head backed settlement [] backs))
grown_tree network plan path (branch_place settlement triple first second) stands none backs =
    let backed = λ (s : Settlement). Backs network plan s.event.path s.event.outcome in
    let below = All-tail backed settlement (in_order first ++ in_order second) backs in
    let here : Backs network plan settlement.event.path (split triple) = subst (Backs network plan settlement.event.path) stands.1 (All-head backed settlement (in_order first ++ in_order second) backs) in
    let left = grown_tree network plan (decided path triple Left) first stands.2
    (nil-left (open_in (decided path triple Left) first) (open_in (decided path triple Right) second) none) (All-left backed (in_order first) (in_order second) below) in
    let right = grown_tree network plan (decided path triple Right) second stands.3
    (nil-right (open_in (decided path triple Left) first) (open_in (decided path triple Right) second) none) (All-right backed (in_order first) (in_order second) below) in
    record {
      tree = branch triple left.tree right.tree;
      accepts = (here, left.accepts, right.accepts);
      nodes = (λ i. node_of network plan (sym stands.1 i) ∷ (left.nodes i ++ right.nodes i))
          ∙ ap (λ xs. node_of network plan settlement.event.outcome ∷ xs) (sym (map-append (λ (s : Settlement). node_of network plan s.event.outcome) (in_order first) (in_order second)));
    }
