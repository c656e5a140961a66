-- The walk to the first open place, by which places are closed.
use Rattle.std.proofs.Common.{◌≡◌, ◌≢◌, ℕ, ◌+◌, ◌<◌, List, [], ◌∷◌, ◌++◌, Bool, true, length, get_or, All, AllPairs, Contains, refl, sym, ap, ◌∙◌, subst, arith, append_assoc, ◌⊎◌, inl, inr}
use Rattle.std.specs.List.{slice_index_or}
use Rattle.std.proofs.lemmas.Bool.{both_ways, and_parts}
use Rattle.std.proofs.lemmas.List.{append-nil, length-append, get_or_default, get_or_append_left, get_or-append-add}
use Rattle.std.proofs.lemmas.List.Elements.{Contains-get_or}
use Rattle.tsn_model.specs.declared.Triple.{Triple}
use Rattle.tsn_model.specs.declared.Side.{Side}
use Rattle.tsn_model.specs.declared.Side.TheVariants.{Left, Right}
use Rattle.tsn_model.specs.declared.Decision.{Decision}
use Rattle.tsn_model.specs.Network.{Network}
use Rattle.tsn_model.specs.Certificate.{decided}
use Rattle.tsn_model.specs.Search.{Outcome, split, solved, pruned, tied, refuted, Settlement, made_paths, open_paths, PathBefore, IsFirstOpen, IsLegal}
use Rattle.tsn_model.proofs.Histories.{open_is_made}
use Rattle.tsn_model.proofs.Counting.{made_decides}
use Rattle.tsn_model.proofs.Kept.{nil-from_none}
use Rattle.tsn_book.specs.declared.statuses.Origin.{Origin}
use Rattle.tsn_book.specs.declared.statuses.Status.{Status}
use Rattle.tsn_book.specs.declared.statuses.Status.TheVariants.{Open, Split, Leaf}
use Rattle.tsn_book.specs.declared.log.Settled.{Settled}
use Rattle.tsn_book.specs.Arena.{path_at, paths_of, history_of, IsEvent, IsPlaced, IsTree, IsOpenPlace, ClosedAt, AreClosed, IsAhead, flag_at}
use Rattle.tsn_book.proofs.Places.{length-paths_of, event_among, same_settlement, split_of_made, nothing_below, left_child, right_child, made_beginning, settled_not_open, decided_by, root_place}
use Rattle.tsn_book.proofs.Asking.{open_at}

module _ {network : Network} {history : List Settlement} (legal : IsLegal network history) where
  -- a split that has a child below it is on the child's triple
  pub same_triple : (path : List Decision) (triple : Triple) (event : ℕ) → IsEvent history event path (split triple)
      → (decision : Decision) → Contains (made_paths history) (path ++ decision ∷ []) → triple ≡ decision.triple
  same_triple path triple event is decision found =
      let from = split_of_made history path decision.triple decision.side (subst (Contains (made_paths history)) (sym (decided_by path decision)) found) in
      let settlement : Settlement = record { teller = is.there.0; event = record { path = path; outcome = split triple } } in
      let same = same_settlement legal settlement from.0 (event_among history settlement event is.within is.there.1) from.1 (sym from.2) in
      ap triple_of (ap (λ (s : Settlement). s.event.outcome) same ∙ from.3)
    where
      triple_of : Outcome → Triple
      triple_of (split t) = t
      triple_of (solved offsets bound leaf chains) = triple
      triple_of (pruned bound leaf) = triple
      triple_of (tied bound leaf chains) = triple
      triple_of (refuted leaf) = triple

  -- a step below an open path's beginning was made
  pub step_made : (path rest : List Decision) (decision : Decision) → Contains (open_paths history) (path ++ decision ∷ rest)
      → Contains (made_paths history) (path ++ decision ∷ [])
  step_made path rest decision found =
      made_beginning legal (path ++ decision ∷ []) rest
      (subst (Contains (made_paths history)) (sym (append_assoc path (decision ∷ []) rest)) (open_is_made history (path ++ decision ∷ rest) found))

module _ {network : Network} {origins : List Origin} {statuses : List Status} {events : List Settled} (tree : IsTree network origins statuses events) where
  -- a closed place isn't open itself
  pub not_open_itself : (closed : List Bool) (place : ℕ) (status : Status)
      → IsPlaced (paths_of origins) (history_of origins events) place status → ClosedAt closed place status → flag_at closed place ≡ true
      → Contains (open_paths (history_of origins events)) (path_at (paths_of origins) place) → ⊥
  not_open_itself closed place Open placed count none found = absurd (both_ways (flag_at closed place) count none)
  not_open_itself closed place (Split triple children event) placed count none found =
      settled_not_open (history_of origins events) (path_at (paths_of origins) place) (split triple) event placed.0 found
  not_open_itself closed place (Leaf event) placed count none found =
      settled_not_open (history_of origins events) (path_at (paths_of origins) place) placed.0 event placed.1 found

-- the place at the next step of an open path below a split
pub record NextPlace (origins : List Origin) (closed : List Bool) (place children : ℕ) (rest : List Decision) (history : List Settlement) : Type 0 where
  pub next : ℕ
  pub within : next < length origins
  pub one_of : (next ≡ children) ⊎ (next ≡ children + 1)
  pub there : Contains (open_paths history) (path_at (paths_of origins) next ++ rest)

module _ {network : Network} {origins : List Origin} {statuses : List Status} {events : List Settled} (tree : IsTree network origins statuses events) where
  pub next_place : (closed : List Bool) (place : ℕ) (triple : Triple) (children event : ℕ)
      → IsPlaced (paths_of origins) (history_of origins events) place (Split triple children event) → (decision : Decision) (rest : List Decision)
      → Contains (open_paths (history_of origins events)) (path_at (paths_of origins) place ++ decision ∷ rest) → (side : Side) → decision.side ≡ side
      → NextPlace origins closed place children rest (history_of origins events)
  next_place closed place triple children event placed decision rest found Left side =
      let history = history_of origins events in
      let path = path_at (paths_of origins) place in
      let same = same_triple tree.legal path triple event placed.0 decision (step_made tree.legal path rest decision found) in
      let child = left_child tree place triple children event placed decision same side in
      record {
        next = children;
        within = child.0;
        one_of = inl refl;
        there = subst (λ p. Contains (open_paths history) (p ++ rest)) (sym child.1)
            (subst (Contains (open_paths history)) (sym (append_assoc path (decision ∷ []) rest)) found);
      }
  next_place closed place triple children event placed decision rest found Right side =
      let history = history_of origins events in
      let path = path_at (paths_of origins) place in
      let same = same_triple tree.legal path triple event placed.0 decision (step_made tree.legal path rest decision found) in
      let child = right_child tree place triple children event placed decision same side in
      record {
        next = children + 1;
        within = child.0;
        one_of = inr refl;
        there = subst (λ p. Contains (open_paths history) (p ++ rest)) (sym child.1)
            (subst (Contains (open_paths history)) (sym (append_assoc path (decision ∷ []) rest)) found);
      }

  -- an open path goes on below a split alone
  pub step_below : (closed : List Bool) (place : ℕ) (status : Status)
      → IsPlaced (paths_of origins) (history_of origins events) place status → ClosedAt closed place status → flag_at closed place ≡ true
      → (decision : Decision) (rest : List Decision)
      → Contains (open_paths (history_of origins events)) (path_at (paths_of origins) place ++ decision ∷ rest)
      → ((next : ℕ) → next < length origins → flag_at closed next ≡ true
      → Contains (open_paths (history_of origins events)) (path_at (paths_of origins) next ++ rest) → ⊥) → ⊥
  step_below closed place Open placed count none decision rest found further = absurd (both_ways (flag_at closed place) count none)
  step_below closed place (Leaf event) placed count none decision rest found further =
      nothing_below tree place decision (Leaf event) placed tt (step_made tree.legal (path_at (paths_of origins) place) rest decision found)
  step_below closed place (Split triple children event) placed count none decision rest found further =
      let to = next_place closed place triple children event placed decision rest found decision.side refl in
      let both = and_parts (flag_at closed children) (flag_at closed (children + 1)) (sym count ∙ none) in
      let left : flag_at closed children ≡ true = both.0 in
      let right : flag_at closed (children + 1) ≡ true = both.1 in
      elim to.one_of [
        | inl is ↦ further to.next to.within (ap (flag_at closed) is ∙ left) to.there
        | inr is ↦ further to.next to.within (ap (flag_at closed) is ∙ right) to.there
      ]

  -- nothing is open below a closed place
  pub none_open : (closed : List Bool) → AreClosed statuses closed
      → (rest : List Decision) (place : ℕ) → place < length origins → flag_at closed place ≡ true
      → Contains (open_paths (history_of origins events)) (path_at (paths_of origins) place ++ rest) → ⊥
  none_open closed flags [] place within none found =
      let inside : place < length statuses = omega (arith, within, tree.counted) in
      not_open_itself tree closed place (slice_index_or statuses place Open) (tree.placed place within) (flags.each place inside) none
      (subst (Contains (open_paths (history_of origins events))) (append-nil (path_at (paths_of origins) place)) found)
  none_open closed flags (decision ∷ rest) place within none found =
      let inside : place < length statuses = omega (arith, within, tree.counted) in
      step_below closed place (slice_index_or statuses place Open) (tree.placed place within) (flags.each place inside) none decision rest found
      (none_open closed flags rest)

-- ---- what comes after the walk's path

pub right_is_not_left : Right ≡ Left → ⊥
right_is_not_left same = subst is_right same tt
  where
    is_right : Side → Type 0
    is_right Left = ⊥
    is_right Right = Unit {0}

-- at the root all is ahead
pub root_ahead : (history : List Settlement) → IsAhead history []
root_ahead history other found = inl (other, refl)

-- a path that comes after another comes after what goes on from that
pub before_longer : (path other : List Decision) (decision : Decision) → PathBefore path other → PathBefore (path ++ decision ∷ []) other
before_longer path other decision before = (
  before.0,
  before.1,
  before.2 ++ decision ∷ [],
  before.3,
  ap (λ p. p ++ decision ∷ []) before.4 ∙ append_assoc (decided before.0 before.1 Left) before.2 (decision ∷ []),
  before.5,
)

module _ {network : Network} {origins : List Origin} {statuses : List Status} {events : List Settled} (tree : IsTree network origins statuses events) where
  -- an open path that goes on below a split, seen from the child that the walk takes
  pub turn : (closed : List Bool) → AreClosed statuses closed
      → (place : ℕ) (triple : Triple) (children event : ℕ) → IsPlaced (paths_of origins) (history_of origins events) place (Split triple children event)
      → (decision : Decision) (rest other : List Decision)
      → other ≡ path_at (paths_of origins) place ++ decision ∷ rest
      → Contains (open_paths (history_of origins events)) (path_at (paths_of origins) place ++ decision ∷ rest)
      → (side its : Side) → decision.side ≡ its → (side ≡ Left) ⊎ (flag_at closed children ≡ true)
      → ((more : List Decision) × (other ≡ (path_at (paths_of origins) place ++ record { triple = triple; side = side } ∷ []) ++ more))
      ⊎ PathBefore (path_at (paths_of origins) place ++ record { triple = triple; side = side } ∷ []) other
  unfolding decided
  turn closed flags place triple children event placed decision rest other is found side its same_side why =
      let history = history_of origins events in
      let path = path_at (paths_of origins) place in
      let same = same_triple tree.legal path triple event placed.0 decision (step_made tree.legal path rest decision found) in
      let parted : other ≡ (path ++ record { triple = triple; side = its } ∷ []) ++ rest =
      is ∙ sym (append_assoc path (decision ∷ []) rest)
      ∙ ap (λ t. (path ++ record { triple = t; side = decision.side } ∷ []) ++ rest) (sym same)
      ∙ ap (λ s. (path ++ record { triple = triple; side = s } ∷ []) ++ rest) same_side in
      by_sides side its same_side why parted
    where
      by_sides : (side its : Side) → decision.side ≡ its → (side ≡ Left) ⊎ (flag_at closed children ≡ true)
          → other ≡ (path_at (paths_of origins) place ++ record { triple = triple; side = its } ∷ []) ++ rest
          → ((more : List Decision) × (other ≡ (path_at (paths_of origins) place ++ record { triple = triple; side = side } ∷ []) ++ more))
          ⊎ PathBefore (path_at (paths_of origins) place ++ record { triple = triple; side = side } ∷ []) other
      by_sides Left Left same_side why parts = inl (rest, parts)
      by_sides Right Right same_side why parts = inl (rest, parts)
      by_sides Left Right same_side why parts =
          inr (
            path_at (paths_of origins) place,
            triple,
            [],
            rest,
            sym (append-nil (path_at (paths_of origins) place ++ record { triple = triple; side = Left } ∷ [])),
            parts,
          )
      by_sides Right Left same_side why parts =
          elim why [
            | inl left ↦ absurd (right_is_not_left left)
            | inr none ↦
                let history = history_of origins events in
                let to = left_child tree place triple children event placed (record { triple = triple; side = Left }) refl refl in
                absurd (none_open tree closed flags rest children to.0 none
                (subst (λ p. Contains (open_paths history) (p ++ rest)) (sym to.1) (subst (Contains (open_paths history)) (sym is ∙ parts) found)))
          ]

  -- a step of the walk: to the left child, or to the right one where nothing is open below the left one
  pub step_ahead : (closed : List Bool) → AreClosed statuses closed
      → (place : ℕ) (triple : Triple) (children event : ℕ) → IsPlaced (paths_of origins) (history_of origins events) place (Split triple children event)
      → (side : Side)
      → (side ≡ Left) ⊎ (flag_at closed children ≡ true)
      → IsAhead (history_of origins events) (path_at (paths_of origins) place)
      → IsAhead (history_of origins events) (path_at (paths_of origins) place ++ record { triple = triple; side = side } ∷ [])
  step_ahead closed flags place triple children event placed side why ahead other found =
      let history = history_of origins events in
      let path = path_at (paths_of origins) place in
      let step : Decision = record { triple = triple; side = side } in
      elim (ahead other found) [
        | inr before ↦ inr (before_longer path other step before)
        | inl begins ↦ from_rest begins.0 begins.1 (subst (Contains (open_paths history)) begins.1 found)
      ]
    where
      from_rest : (rest : List Decision) → other ≡ path_at (paths_of origins) place ++ rest
          → Contains (open_paths (history_of origins events)) (path_at (paths_of origins) place ++ rest)
          → ((more : List Decision) × (other ≡ (path_at (paths_of origins) place ++ record { triple = triple; side = side } ∷ []) ++ more))
          ⊎ PathBefore (path_at (paths_of origins) place ++ record { triple = triple; side = side } ∷ []) other
      from_rest [] is at =
          absurd (settled_not_open (history_of origins events) (path_at (paths_of origins) place) (split triple) event placed.0
          (subst (Contains (open_paths (history_of origins events))) (append-nil (path_at (paths_of origins) place)) at))
      from_rest (decision ∷ rest) is at = turn closed flags place triple children event placed decision rest other is at side decision.side refl why

  -- an open place that is ahead of all others is the first
  pub open_is_first : (place : ℕ) → IsOpenPlace statuses place
      → IsAhead (history_of origins events) (path_at (paths_of origins) place) → IsFirstOpen (history_of origins events) (path_at (paths_of origins) place)
  open_is_first place at ahead =
      let history = history_of origins events in
      let path = path_at (paths_of origins) place in
      let below : place < length origins = omega (arith, at.within, tree.counted) in
      let placed : IsPlaced (paths_of origins) history place Open = subst (IsPlaced (paths_of origins) history place) at.is_open (tree.placed place below) in
      record {
        is_open = open_at tree place path at refl;
        before_others = λ other found different.
            elim (ahead other found) [
              | inr before ↦ before
              | inl begins ↦ longer begins.0 begins.1 found different placed
            ];
      }
    where
      longer : {other : List Decision} (rest : List Decision) → other ≡ path_at (paths_of origins) place ++ rest
          → Contains (open_paths (history_of origins events)) other → other ≢ path_at (paths_of origins) place
          → IsPlaced (paths_of origins) (history_of origins events) place Open → PathBefore (path_at (paths_of origins) place) other
      longer [] is found different placed = absurd (different (is ∙ append-nil (path_at (paths_of origins) place)))
      longer (decision ∷ rest) is found different placed =
          absurd (nothing_below tree place decision Open placed tt
          (step_made tree.legal (path_at (paths_of origins) place) rest decision (subst (Contains (open_paths (history_of origins events))) is found)))

  -- where the root is closed nothing is open
  pub nothing_open : (closed : List Bool) → AreClosed statuses closed
      → flag_at closed 0 ≡ true → open_paths (history_of origins events) ≡ []
  nothing_open closed flags none =
      let root = root_place tree in
      nil-from_none (open_paths (history_of origins events)) (λ path found.
      none_open tree closed flags path 0 root.0 none
      (subst (λ p. Contains (open_paths (history_of origins events)) (p ++ path)) (sym root.1) found))

  -- whether a place is closed, by its status as it is read
  pub closed_as : (closed : List Bool) → AreClosed statuses closed
      → (place : ℕ) → place < length origins → (status is : Status) → status ≡ get_or statuses place status → status ≡ is → ClosedAt closed place is
  closed_as closed flags place within status is read same =
      let inside : place < length statuses = omega (arith, within, tree.counted) in
      subst (ClosedAt closed place) (get_or_default statuses place Open status inside ∙ sym read ∙ same) (flags.each place inside)

  -- a place's path was made
  pub place_made : (place : ℕ) → place < length origins
      → Contains (made_paths (history_of origins events)) (path_at (paths_of origins) place)
  unfolding path_at
  place_made place below =
      let inside : place < length (paths_of origins) = omega (arith, below, length-paths_of origins) in
      subst (λ made. Contains made (get_or (paths_of origins) place [])) tree.made (Contains-get_or (paths_of origins) place [] inside)

-- what is decided last wasn't decided before
undecided_before : (path : List Decision) (decision : Decision) → AllPairs (λ (a b : Decision). a.triple ≢ b.triple) (path ++ decision ∷ [])
    → All (λ (other : Decision). other.triple ≢ decision.triple) path
undecided_before path decision different k d below same =
    let last : get_or (path ++ decision ∷ []) (length path + 0) d ≡ decision = get_or-append-add path (decision ∷ []) 0 d in
    let longer : length path + 0 < length (path ++ decision ∷ []) = omega (arith, length-append path (decision ∷ [])) in
    let earlier : k < length path + 0 = omega (arith, below) in
    different k (length path + 0) d earlier longer
    (ap (λ (other : Decision). other.triple) (get_or_append_left path (decision ∷ []) d k below) ∙ same ∙ sym (ap (λ (other : Decision). other.triple) last))

module _ {network : Network} {origins : List Origin} {statuses : List Status} {events : List Settled} (tree : IsTree network origins statuses events) where
  -- a child's decision isn't on its parent's path
  pub child_undecided : (child : ℕ) → child < length origins
      → (path : List Decision) (decision : Decision) → path_at (paths_of origins) child ≡ path ++ decision ∷ []
      → All (λ (other : Decision). other.triple ≢ decision.triple) path
  child_undecided child within path decision is =
      let made = subst (Contains (made_paths (history_of origins events))) is (place_made tree child within) in
      undecided_before path decision (made_decides network (history_of origins events) tree.legal (path ++ decision ∷ []) made).different
