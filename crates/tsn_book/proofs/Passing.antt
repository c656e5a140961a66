-- One step of the walk that orders a finished tree's events.
use Rattle.std.proofs.Common.{◌≡◌, ◌+◌, ◌<◌, ℕ, List, [], ◌∷◌, ◌++◌, length, subst, arith}
use Rattle.std.specs.List.{slice_index_or}
use Rattle.tsn_model.specs.declared.Triple.{Triple}
use Rattle.tsn_book.specs.declared.statuses.Status.{Status}
use Rattle.tsn_book.specs.declared.statuses.Status.TheVariants.{Open, Split, Leaf}
use Rattle.tsn_book.specs.declared.arena.Tree.{Tree}
use Rattle.tsn_book.specs.Arena.{paths_of, settled_in, IsArena}
use Rattle.tsn_book.specs.Spelling.{IsWalk}
use Rattle.tsn_book.proofs.Places.{placed_as, length-paths_of}
use Rattle.tsn_book.proofs.Asking.{length-history_of}
use Rattle.tsn_book.proofs.Preorder as walking

module _ (tree : Tree) (known : IsArena tree) (items stack : List ℕ) (place : ℕ) (numbers : List ℕ) (popped : items ≡ stack ++ place ∷ [])
    (walk : IsWalk (paths_of tree.places.origins) (settled_in tree) items numbers) where
  at : IsWalk (paths_of tree.places.origins) (settled_in tree) (stack ++ place ∷ []) numbers
  at = subst (λ s. IsWalk (paths_of tree.places.origins) (settled_in tree) s numbers) popped walk

  pub within : place < length tree.places.origins
  within = walking.waits_within tree.places.origins (settled_in tree) stack place numbers at

  pub room : length numbers < length tree.events.items
  room =
      let less = walking.walk_room stack place at in omega
      (arith, less, length-history_of tree.places.origins tree.events.items)

  module _ (status : Status) (read : status ≡ slice_index_or tree.places.statuses place status) where
    pub none_open : status ≡ Open → ⊥
    none_open is = walking.open_waits stack place at
        (placed_as known place within _ _ read is)

    pub children_within : (triple : Triple) (children event : ℕ) → status ≡ Split triple children event → children + 1 < length tree.places.origins
    children_within triple children event is =
        let placed = placed_as known place within _ _ read is in
        omega (arith, placed.1, length-paths_of tree.places.origins)

    pub split_passed : (triple : Triple) (children event : ℕ) → status ≡ Split triple children event
        → IsWalk (paths_of tree.places.origins) (settled_in tree) ((stack ++ (children + 1) ∷ []) ++ children ∷ []) (numbers ++ event ∷ [])
    split_passed triple children event is =
        walking.split_passed known.legal stack place at triple children event
        (placed_as known place within _ _ read is)

    pub leaf_passed : (event : ℕ) → status ≡ Leaf event → IsWalk (paths_of tree.places.origins) (settled_in tree) stack (numbers ++ event ∷ [])
    leaf_passed event is =
        walking.leaf_passed known.legal stack place at event
        (placed_as known place within _ _ read is)
