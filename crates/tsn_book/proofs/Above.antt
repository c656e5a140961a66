-- What is above a place: its parent, and the side that leads from there to it.
use Rattle.std.proofs.Common.{◌≡◌, ℕ, ◌+◌, ◌<◌, List, [], length, Contains, refl, sym, ap, ◌∙◌, subst, arith, inl, inr}
use Rattle.std.specs.List.{slice_index_or}
use Rattle.tsn_model.specs.declared.Triple.{Triple}
use Rattle.tsn_model.specs.declared.Side.TheVariants.{Left, Right}
use Rattle.tsn_model.specs.declared.Decision.{Decision}
use Rattle.tsn_model.specs.Network.{Network}
use Rattle.tsn_model.specs.Certificate.{decided}
use Rattle.tsn_model.specs.Search.{made_paths}
use Rattle.tsn_model.specs.Walk.{path_made, IsPlaceOf}
use Rattle.tsn_model.proofs.Paths.{decided-parts}
use Rattle.tsn_book.specs.declared.statuses.Origin.{Origin}
use Rattle.tsn_book.specs.declared.statuses.Origin.TheVariants.{Root, Child}
use Rattle.tsn_book.specs.declared.statuses.Status.{Status}
use Rattle.tsn_book.specs.declared.statuses.Status.TheVariants.{Open, Split, Leaf}
use Rattle.tsn_book.specs.declared.log.Settled.{Settled}
use Rattle.tsn_book.specs.Arena.{path_at, paths_of, history_of, IsPlaced, IsTree}
use Rattle.tsn_book.specs.Below.{IsAbove}
use Rattle.tsn_book.proofs.Places.{decided_by, child_path}
use Rattle.tsn_book.proofs.Walking.{place_made, same_triple, right_is_not_left}
use Rattle.tsn_book.proofs.Closing.{parent_split, parent_child}
use Rattle.tsn_book.proofs.Asking.{length-made, path_made-at}

module _ {network : Network} {origins : List Origin} {statuses : List Status} {events : List Settled} (tree : IsTree network origins statuses events)
    (place parent : ℕ) (decision : Decision) where
  -- the place's path goes on from its parent's
  goes_on : place < length origins → slice_index_or origins place Root ≡ Child parent decision → parent < place
      → path_made (history_of origins events) place ≡ decided (path_made (history_of origins events) parent) decision.triple decision.side
  goes_on there origin before =
      sym (path_made-at tree place)
      ∙ child_path origins place parent decision there origin before ∙ sym (decided_by (path_at (paths_of origins) parent) decision)
      ∙ ap (λ path. decided path decision.triple decision.side) (path_made-at tree parent)

  -- after a Left child stands the Right one
  sibling_at : place < length origins → slice_index_or origins place Root ≡ Child parent decision → parent < place → (status : Status)
      → slice_index_or statuses parent Open ≡ status
      → IsPlaced (paths_of origins) (history_of origins events) parent status → decision.side ≡ Left
      → IsPlaceOf (history_of origins events) (decided (path_made (history_of origins events) parent) decision.triple Right) (place + 1)
  sibling_at there origin before Open stands placed left =
      absurd (parent_split tree place parent decision (omega (arith, there, tree.counted)) origin before Open placed
      (λ triple children event same. not_open triple children event same))
    where
      not_open : (triple : Triple) (children event : ℕ) → Open ≡ Split triple children event → ⊥
      not_open triple children event same = cc
  sibling_at there origin before (Leaf number) stands placed left =
      absurd (parent_split tree place parent decision (omega (arith, there, tree.counted)) origin before (Leaf number) placed
      (λ triple children event same. not_leaf triple children event same))
    where
      not_leaf : (triple : Triple) (children event : ℕ) → Leaf number ≡ Split triple children event → ⊥
      not_leaf triple children event same = cc
  sibling_at there origin before (Split triple children event) stands placed left =
      let history = history_of origins events in
      let above = path_at (paths_of origins) parent in
      let is = child_path origins place parent decision there origin before in
      let made = subst (Contains (made_paths history)) is (place_made tree place there) in
      let same = same_triple tree.legal above triple event placed.0 decision made in
      elim (parent_child tree place parent decision (omega (arith, there, tree.counted)) origin before triple children event stands) [
        | inl first ↦
            let next : place + 1 ≡ children + 1 = omega (arith, first) in
            let many : length (paths_of origins) ≡ length (made_paths history) = ap length tree.made in
            record {
              within = omega (arith, placed.1, next, many);
              is = sym (path_made-at tree (place + 1))
                  ∙ ap (path_at (paths_of origins)) next ∙ placed.3
                  ∙ ap (λ t. decided above t Right) same
                  ∙ ap (λ path. decided path decision.triple Right) (path_made-at tree parent);
            }
        | inr second ↦
            let turned : decided above decision.triple decision.side ≡ decided above triple Right =
            decided_by above decision ∙ sym is ∙ ap (path_at (paths_of origins)) second ∙ placed.3 in
            let sides = decided-parts above above decision.triple triple decision.side Right turned in
            absurd (right_is_not_left (sym sides.2 ∙ left))
      ]

  pub above_at : place < length origins → slice_index_or origins place Root ≡ Child parent decision → parent < place
      → IsAbove (history_of origins events) place parent decision.side
  above_at there origin before =
      let its : parent < length origins = omega (arith, there, before) in
      record {
        before = before;
        at_parent = record { within = omega (arith, its, length-made tree); is = refl };
        triple = decision.triple;
        is = goes_on there origin before;
        sibling = sibling_at there origin before (slice_index_or statuses parent Open) refl (tree.placed parent its);
      }

module _ {network : Network} {origins : List Origin} {statuses : List Status} {events : List Settled} (tree : IsTree network origins statuses events) where
  -- the root is above all
  pub root_made : (place : ℕ) → path_at (paths_of origins) place ≡ [] → path_made (history_of origins events) place ≡ []
  root_made place is = sym (path_made-at tree place) ∙ is
