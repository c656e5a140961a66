-- Places and their paths: how paths grow, what a place's status tells of a path, and where a walk leaves the tree.
use Rattle.std.proofs.Common.{pos, ◌≡◌, ◌≢◌, ℕ, ◌+◌, ◌≤◌, ◌<◌, List, [], ◌∷◌, ◌++◌, length, take, drop, get_or, Contains, Bool, true, false, refl, sym, ap, ◌∙◌, subst, arith, append_assoc, inl, inr, Some, None}
use Rattle.std.specs.Prelude.{position, slice_get}
use Rattle.std.specs.List.{flat_map, slice_index_or, position_or_len}
use Rattle.std.proofs.lemmas.Bool.{cases_Bool, both_ways, cond-true, cond-false, cases_lt, lt-ltb, le-ltb}
use Rattle.std.proofs.lemmas.List.{append-nil, length-append, get_or_append_left, get_or-append-add, get_or_default, take_more, take_all, take-append-drop}
use Rattle.std.proofs.lemmas.List.Sums.{fold-append, position_or_len_is, passes_at_first}
use Rattle.std.proofs.lemmas.List.Elements.{Contains-get_or}
use Rattle.std.proofs.lemmas.Option.{get_or_from_slice_get}
use Rattle.tsn_model.specs.declared.Triple.{Triple}
use Rattle.tsn_model.specs.declared.Side.{Side}
use Rattle.tsn_model.specs.declared.Side.TheVariants.{Left, Right}
use Rattle.tsn_model.specs.declared.Decision.{Decision}
use Rattle.tsn_model.specs.Network.{Network}
use Rattle.tsn_model.specs.Certificate.{decided}
use Rattle.tsn_model.specs.Search.{Outcome, split, solved, pruned, tied, refuted, Settlement, path_eq, children_of, made_paths, open_paths, is_settled, ends_of, IsLegal}
use Rattle.tsn_model.proofs.Lists.{Contains-cons_cases, from_flat_map}
use Rattle.tsn_model.proofs.SearchLists.{snoc_induction}
use Rattle.tsn_model.proofs.Paths.{path_eq-true, path_eq-refl, path_eq-false, decided-parts, nil-ne-decided}
use Rattle.tsn_model.proofs.Histories.{settled_at, parent_settled, settled_is_made, settled_once, open_is_made, open_not_settled, child_of}
use Rattle.tsn_book.specs.declared.statuses.Origin.{Origin}
use Rattle.tsn_book.specs.declared.statuses.Origin.TheVariants.{Root, Child}
use Rattle.tsn_book.specs.declared.statuses.Status.{Status}
use Rattle.tsn_book.specs.declared.statuses.Status.TheVariants.{Open, Split, Leaf}
use Rattle.tsn_book.specs.declared.log.Settled.{Settled}
use Rattle.tsn_book.specs.declared.arena.PathEnd.TheVariants.{Settled as AtSettled, Outside}
use Rattle.tsn_book.specs.Arena.{path_at, path_from, with_path, paths_of, history_of, IsEvent, IsPlaced, IsTree, IsPathEnd}

-- ---- paths

-- one more place has one more path, and the others keep theirs
pub paths_of-snoc : (origins : List Origin) (origin : Origin) → paths_of (origins ++ origin ∷ []) ≡ paths_of origins ++ path_from (paths_of origins) origin ∷ []
unfolding paths_of with_path
paths_of-snoc origins origin = fold-append with_path [] origins (origin ∷ [])

pub length-paths_of : (origins : List Origin) → length (paths_of origins) ≡ length origins
unfolding paths_of
length-paths_of =
    snoc_induction (λ origins. length (paths_of origins) ≡ length origins) refl
    (λ origins origin known.
    let one = ap length (paths_of-snoc origins origin) in
    omega (arith, one, known, length-append (paths_of origins) (path_from (paths_of origins) origin ∷ []), length-append origins (origin ∷ [])))

pub path_at-left : (paths more : List (List Decision)) (place : ℕ) → place < length paths → path_at (paths ++ more) place ≡ path_at paths place
unfolding path_at
path_at-left paths more place below = get_or_append_left paths more [] place below

pub path_at-right : (paths more : List (List Decision)) (k : ℕ) → path_at (paths ++ more) (length paths + k) ≡ path_at more k
unfolding path_at
path_at-right paths more k = get_or-append-add paths more k []

-- ---- what one settlement tells

pub event_among : (history : List Settlement) (settlement : Settlement) (event : ℕ) → event < length history → slice_get history event ≡ Some settlement
    → Contains history settlement
event_among history settlement event below is = (event, below, get_or_from_slice_get history event settlement settlement is)

module _ {network : Network} {history : List Settlement} (legal : IsLegal network history) where
  -- two settlements of one path are one settlement
  pub same_settlement : (a b : Settlement) → Contains history a → Contains history b → a.event.path ≡ b.event.path → a ≡ b
  same_settlement a b first second same =
      let once = settled_once network history legal in
      elim (cases_lt first.0 second.0) [
        | inl less ↦
            absurd (once first.0 second.0 a less second.1
            (ap (λ (s : Settlement). s.event.path) first.2 ∙ same ∙ sym (ap (λ (s : Settlement). s.event.path) (moved second a))))
        | inr more ↦
            elim (cases_lt second.0 first.0) [
              | inl less ↦
                  absurd (once second.0 first.0 b less first.1
                  (ap (λ (s : Settlement). s.event.path) second.2 ∙ sym same ∙ sym (ap (λ (s : Settlement). s.event.path) (moved first b))))
              | inr least ↦
                  let at : first.0 ≡ second.0 = omega arith in
                  sym first.2 ∙ ap (λ k. get_or history k a) at ∙ moved second a
            ]
      ]
    where
      moved : {x : Settlement} (found : Contains history x) (d : Settlement) → get_or history found.0 d ≡ x
      moved {x} found d = get_or_default history found.0 d x found.1 ∙ found.2

-- a made child's parent was split on its triple
pub split_of_made : (history : List Settlement) (path : List Decision) (triple : Triple) (side : Side)
    → Contains (made_paths history) (decided path triple side)
    → (settlement : Settlement) × Contains history settlement × (settlement.event.path ≡ path) × (settlement.event.outcome ≡ split triple)
unfolding made_paths
split_of_made history path triple side found =
    elim (Contains-cons_cases [] (flat_map (λ (s : Settlement). children_of s.event.path s.event.outcome) history) (decided path triple side) found) [
      | inl is ↦ absurd (nil-ne-decided path triple side is)
      | inr later ↦
          let from = from_flat_map (λ (s : Settlement). children_of s.event.path s.event.outcome) history (decided path triple side) later in
          let child = child_of from.0.event.path from.0.event.outcome (decided path triple side) from.2 in
          let parts = decided-parts from.0.event.path path child.triple triple child.side side child.is in
          (from.0, from.1, parts.0, child.was_split ∙ ap split parts.1)
    ]

module _ {network : Network} {history : List Settlement} (legal : IsLegal network history) where
  -- where the path was settled otherwise, that child wasn't made
  pub no_child : (path : List Decision) (outcome : Outcome) (event : ℕ) → IsEvent history event path outcome
      → (triple : Triple) (side : Side) → outcome ≢ split triple → Contains (made_paths history) (decided path triple side) → ⊥
  no_child path outcome event is triple side other found =
      let from = split_of_made history path triple side found in
      let settlement : Settlement = record { teller = is.there.0; event = record { path = path; outcome = outcome } } in
      let same = same_settlement legal settlement from.0 (event_among history settlement event is.within is.there.1) from.1 (sym from.2) in
      other (ap (λ (s : Settlement). s.event.outcome) same ∙ from.3)

-- a path that wasn't settled has no child
pub no_child_of_open : (history : List Settlement) (path : List Decision) → is_settled history path ≡ false → (triple : Triple) (side : Side)
    → Contains (made_paths history) (decided path triple side) → ⊥
no_child_of_open history path unsettled triple side found =
    both_ways (is_settled history path) unsettled (parent_settled history path triple side found)

-- a leaf is no split
pub leaf_is_no_split : (path : List Decision) (outcome : Outcome) (triple : Triple) → ends_of path outcome ≡ path ∷ [] → outcome ≢ split triple
unfolding ends_of
leaf_is_no_split path outcome triple ends same =
    let none : [] ≡ path ∷ [] = sym (ap (ends_of path) same) ∙ ends in
    let e : length {A = List Decision} [] ≡ length (path ∷ []) = ap length none in
    absurd (omega (arith, e))

-- ---- where a walk ends

module _ {network : Network} {history : List Settlement} (legal : IsLegal network history) where
  -- a beginning of a made path was made
  pub made_beginning : (first rest : List Decision) → Contains (made_paths history) (first ++ rest) → Contains (made_paths history) first
  unfolding decided
  made_beginning first =
      snoc_induction (λ rest. Contains (made_paths history) (first ++ rest) → Contains (made_paths history) first)
      (λ found. subst (Contains (made_paths history)) (append-nil first) found)
      (λ rest decision known found.
      let child : Contains (made_paths history) (decided (first ++ rest) decision.triple decision.side) =
      subst (Contains (made_paths history)) (sym (append_assoc first rest (decision ∷ []))) found in
      known (settled_is_made network history legal (first ++ rest) (parent_settled history (first ++ rest) decision.triple decision.side child)))

  -- the settlement of a path is the first one of it
  pub event_position : (path : List Decision) (outcome : Outcome) (event : ℕ) → IsEvent history event path outcome
      → position (λ (s : Settlement). path_eq s.event.path path) history ≡ Some event
  event_position path outcome event is =
      let settlement : Settlement = record { teller = is.there.0; event = record { path = path; outcome = outcome } } in
      let test : Settlement → Bool = λ s. path_eq s.event.path path in
      let there = get_or_from_slice_get history event settlement settlement is.there.1 in
      let once = settled_once network history legal in
      let at : position_or_len test history ≡ event =
      position_or_len_is test history event settlement (omega (arith, is.within))
      (λ k before. path_eq-false (get_or history k settlement).event.path path (λ same.
      once k event settlement before is.within (same ∙ sym (ap (λ (s : Settlement). s.event.path) there))))
      (λ within. subst (λ (s : Settlement). test s ≡ true) (sym there) (path_eq-refl path)) in
      let below : position_or_len test history < length history = omega (arith, at, is.within) in
      cond-true _ _ _ (lt-ltb (position_or_len test history) (length history) below) ∙ ap (λ k. Some k) at

-- a path that wasn't settled has no settlement
pub no_position : (history : List Settlement) (path : List Decision) → is_settled history path ≡ false
    → position (λ (s : Settlement). path_eq s.event.path path) history ≡ None
no_position history path unsettled =
    let test : Settlement → Bool = λ s. path_eq s.event.path path in
    elim (cases_lt (position_or_len test history) (length history)) [
      | inl below ↦
          let undecided = split (record { left = 0; right = 0; link = 0; lag = pos 0 }) in
          let none : Settlement = record { teller = 0; event = record { path = []; outcome = undecided } } in
          let first = get_or history (position_or_len test history) none in
          let same : first.event.path ≡ path = path_eq-true first.event.path path (passes_at_first test history none below) in
          absurd (both_ways (is_settled history path) unsettled
          (subst (λ p. is_settled history p ≡ true) same (settled_at history first (Contains-get_or history (position_or_len test history) none below))))
      | inr past ↦ cond-false _ _ _ (le-ltb _ _ past)
    ]

-- a settled path isn't open
pub settled_not_open : (history : List Settlement) (path : List Decision) (outcome : Outcome) (event : ℕ) → IsEvent history event path outcome
    → Contains (open_paths history) path → ⊥
settled_not_open history path outcome event is found =
    let settlement : Settlement = record { teller = is.there.0; event = record { path = path; outcome = outcome } } in
    both_ways (is_settled history path) (open_not_settled history path found)
    (settled_at history settlement (event_among history settlement event is.within is.there.1))

module _ {network : Network} {history : List Settlement} (legal : IsLegal network history) where
  -- a path that wasn't made wasn't settled
  pub unmade_unsettled : (path : List Decision) → (Contains (made_paths history) path → ⊥) → is_settled history path ≡ false
  unmade_unsettled path unmade =
      elim (cases_Bool (is_settled history path)) [
        | inl is ↦ absurd (unmade (settled_is_made network history legal path is))
        | inr is ↦ is
      ]

-- ---- the places of a tree

module _ {network : Network} {origins : List Origin} {statuses : List Status} {events : List Settled} (tree : IsTree network origins statuses events) where
  -- what a place's status says, as it is read
  pub status_at : (place : ℕ) → place < length origins
      → (status : Status) → status ≡ get_or statuses place status → IsPlaced (paths_of origins) (history_of origins events) place status
  status_at place below status read =
      let within : place < length statuses = omega (arith, tree.counted) in
      subst (IsPlaced (paths_of origins) (history_of origins events) place) (get_or_default statuses place Open status within ∙ sym read)
      (tree.placed place below)

-- a decision as a step of a path
pub decided_by : (path : List Decision) (decision : Decision) → decided path decision.triple decision.side ≡ path ++ decision ∷ []
unfolding decided
decided_by path decision = refl

module _ {network : Network} {origins : List Origin} {statuses : List Status} {events : List Settled} (tree : IsTree network origins statuses events) where
  -- the root is the first place
  pub root_place : (0 < length origins) × (path_at (paths_of origins) 0 ≡ [])
  unfolding made_paths path_at
  root_place =
      let longer = ap length tree.made in
      (omega (arith, longer, length-paths_of origins), ap (λ paths. slice_index_or paths 0 []) tree.made)

  -- the place below a split, by the decision's side
  pub left_child : (place : ℕ) (triple : Triple) (children event : ℕ)
      → IsPlaced (paths_of origins) (history_of origins events) place (Split triple children event) → (decision : Decision) → triple ≡ decision.triple
      → decision.side ≡ Left
      → (children < length origins) × (path_at (paths_of origins) children ≡ path_at (paths_of origins) place ++ decision ∷ [])
  left_child place triple children event placed decision same side = (
    omega (arith, placed.1, length-paths_of origins),
    placed.2 ∙ ap (λ t. decided (path_at (paths_of origins) place) t Left) same ∙ ap (decided (path_at (paths_of origins) place) decision.triple) (sym side)
        ∙ decided_by (path_at (paths_of origins) place) decision,
  )

  pub right_child : (place : ℕ) (triple : Triple) (children event : ℕ)
      → IsPlaced (paths_of origins) (history_of origins events) place (Split triple children event) → (decision : Decision) → triple ≡ decision.triple
      → decision.side ≡ Right
      → (children + 1 < length origins) × (path_at (paths_of origins) (children + 1) ≡ path_at (paths_of origins) place ++ decision ∷ [])
  right_child place triple children event placed decision same side = (
    omega (arith, placed.1, length-paths_of origins),
    placed.3 ∙ ap (λ t. decided (path_at (paths_of origins) place) t Right) same ∙ ap (decided (path_at (paths_of origins) place) decision.triple) (sym side)
        ∙ decided_by (path_at (paths_of origins) place) decision,
  )

-- there is no child by another triple
pub split_other : (triple other : Triple) → triple ≢ other → split triple ≢ split other
split_other triple other different same = different (ap triple_of same)
  where
    triple_of : Outcome → Triple
    triple_of (split t) = t
    triple_of (solved offsets bound leaf chains) = triple
    triple_of (pruned bound leaf) = triple
    triple_of (tied bound leaf chains) = triple
    triple_of (refuted leaf) = triple

-- the status is no split on the triple
abbrev pub IsOtherThan : Triple → Status → Type 0
IsOtherThan other Open = Unit {0}
IsOtherThan other (Split triple children event) = triple ≢ other
IsOtherThan other (Leaf event) = Unit {0}

module _ {network : Network} {origins : List Origin} {statuses : List Status} {events : List Settled} (tree : IsTree network origins statuses events) where
  -- no child where none is kept
  pub nothing_below : (place : ℕ) (decision : Decision)
      → (status : Status) → IsPlaced (paths_of origins) (history_of origins events) place status → IsOtherThan decision.triple status
      → Contains (made_paths (history_of origins events)) (path_at (paths_of origins) place ++ decision ∷ []) → ⊥
  nothing_below place decision Open placed other found =
      no_child_of_open (history_of origins events) (path_at (paths_of origins) place) placed decision.triple decision.side
      (subst (Contains (made_paths (history_of origins events))) (sym (decided_by (path_at (paths_of origins) place) decision)) found)
  nothing_below place decision (Split triple children event) placed other found =
      no_child tree.legal (path_at (paths_of origins) place) (split triple) event placed.0 decision.triple decision.side
      (split_other triple decision.triple other)
      (subst (Contains (made_paths (history_of origins events))) (sym (decided_by (path_at (paths_of origins) place) decision)) found)
  nothing_below place decision (Leaf event) placed other found =
      no_child tree.legal (path_at (paths_of origins) place) placed.0 event placed.1 decision.triple decision.side
      (leaf_is_no_split (path_at (paths_of origins) place) placed.0 decision.triple placed.2)
      (subst (Contains (made_paths (history_of origins events))) (sym (decided_by (path_at (paths_of origins) place) decision)) found)

  -- ---- the walk's answers

  -- a path with a beginning that wasn't made is outside the tree
  pub stops_outside : (path first rest : List Decision)
      → path ≡ first ++ rest → (Contains (made_paths (history_of origins events)) first → ⊥) → IsPathEnd origins statuses events path Outside
  stops_outside path first rest parts unmade =
      let history = history_of origins events in
      let none : Contains (made_paths history) path → ⊥ =
      λ found. unmade (made_beginning tree.legal first rest (subst (Contains (made_paths history)) parts found)) in
      (λ found. none (open_is_made history path found), no_position history path (unmade_unsettled tree.legal path none))

  -- a settled place
  pub stops_settled : (place : ℕ) (outcome : Outcome) (event : ℕ)
      → IsEvent (history_of origins events) event (path_at (paths_of origins) place) outcome → (path : List Decision) → path_at (paths_of origins) place ≡ path
      → IsPathEnd origins statuses events path (AtSettled event)
  stops_settled place outcome event is path same =
      let history = history_of origins events in
      let there : IsEvent history event path outcome = subst (λ p. IsEvent history event p outcome) same is in
      (settled_not_open history path outcome event there, event_position tree.legal path outcome event there)

  -- a place that reads so stands so
  pub placed_as : (place : ℕ) → place < length origins
      → (status is : Status) → status ≡ get_or statuses place status → status ≡ is → IsPlaced (paths_of origins) (history_of origins events) place is
  placed_as place below status is read same =
      subst (IsPlaced (paths_of origins) (history_of origins events) place) same (status_at tree place below status read)

-- a walk along all of a path
pub walked : (path reached : List Decision) (k : ℕ) → reached ≡ take k path → length path ≤ k → reached ≡ path
walked path reached k so_far past = so_far ∙ take_all k path past

module _ {network : Network} {origins : List Origin} {statuses : List Status} {events : List Settled} (tree : IsTree network origins statuses events) where
  -- a walk that finds no place below the one that it has reached
  pub stops_below : (path : List Decision) (place k : ℕ) (decision : Decision)
      → k < length path → path_at (paths_of origins) place ≡ take k path
      → (Contains (made_paths (history_of origins events)) (path_at (paths_of origins) place ++ get_or path k decision ∷ []) → ⊥)
      → IsPathEnd origins statuses events path Outside
  stops_below path place k decision below so_far unmade =
      stops_outside tree path (path_at (paths_of origins) place ++ get_or path k decision ∷ []) (drop (k + 1) path)
      (sym (take-append-drop (k + 1) path) ∙ ap (λ p. p ++ drop (k + 1) path)
      (take_more path k decision below ∙ ap (λ p. p ++ get_or path k decision ∷ []) (sym so_far)))
      unmade

-- a place that reads so stands so
pub stands_as : (statuses : List Status) (place : ℕ) → place < length statuses → (status is : Status) → status ≡ get_or statuses place status → status ≡ is
    → slice_index_or statuses place Open ≡ is
stands_as statuses place within status is read same = get_or_default statuses place Open status within ∙ sym read ∙ same

-- ---- parents

-- a child's path is its parent's, and one decision
pub child_path : (origins : List Origin) (place parent : ℕ) (decision : Decision) → place < length origins
    → slice_index_or origins place Root ≡ Child parent decision → parent < place
    → path_at (paths_of origins) place ≡ path_at (paths_of origins) parent ++ decision ∷ []
unfolding path_at path_from
child_path =
    snoc_induction (λ origins. (place parent : ℕ) (decision : Decision) → place < length origins → slice_index_or origins place Root ≡ Child parent decision
    → parent < place
    → path_at (paths_of origins) place ≡ path_at (paths_of origins) parent ++ decision ∷ [])
    (λ place parent decision within is before. absurd (omega (arith, within)))
    (λ origins origin known place parent decision within is before.
    let paths = paths_of origins in
    let one = paths_of-snoc origins origin in
    let extra = path_from paths origin ∷ [] in
    let many = length-paths_of origins in
    let total : place < length origins + 1 = omega (arith, within, length-append origins (origin ∷ [])) in
    elim (cases_lt place (length origins)) [
      | inl earlier ↦
          let at : place < length paths = omega (arith, earlier, many) in
          let its : parent < length paths = omega (arith, earlier, before, many) in
          ap (λ ps. path_at ps place) one ∙ path_at-left paths extra place at
          ∙ known place parent decision earlier (sym (get_or_append_left origins (origin ∷ []) Root place earlier) ∙ is) before
          ∙ ap (λ p. p ++ decision ∷ []) (sym (path_at-left paths extra parent its) ∙ ap (λ ps. path_at ps parent) (sym one))
      | inr past ↦
          let last : place ≡ length origins + 0 = omega (arith, total, past) in
          let here : origin ≡ Child parent decision =
          sym (get_or-append-add origins (origin ∷ []) 0 Root) ∙ ap (λ k. get_or (origins ++ origin ∷ []) k Root) (sym last) ∙ is in
          let at : place ≡ length paths + 0 = omega (arith, last, many) in
          let its : parent < length paths = omega (arith, at, before) in
          ap (λ ps. path_at ps place) one ∙ ap (path_at (paths ++ extra)) at ∙ path_at-right paths extra 0 ∙ first_at (path_from paths origin)
          ∙ from_parent paths origin parent decision here
          ∙ ap (λ p. p ++ decision ∷ []) (sym (path_at-left paths extra parent its) ∙ ap (λ ps. path_at ps parent) (sym one))
    ])
  where
    first_at : (path : List Decision) → path_at (path ∷ []) 0 ≡ path
    first_at path = refl

    from_parent : (paths : List (List Decision)) (origin : Origin) (parent : ℕ) (decision : Decision) → origin ≡ Child parent decision
        → path_from paths origin ≡ path_at paths parent ++ decision ∷ []
    from_parent paths origin parent decision is = ap (path_from paths) is

-- the root's path is empty
pub root_path : (origins : List Origin) (place : ℕ) → place < length origins → slice_index_or origins place Root ≡ Root → path_at (paths_of origins) place ≡ []
unfolding path_at path_from
root_path =
    snoc_induction (λ origins. (place : ℕ) → place < length origins → slice_index_or origins place Root ≡ Root → path_at (paths_of origins) place ≡ [])
    (λ place within is. absurd (omega (arith, within)))
    (λ origins origin known place within is.
    let paths = paths_of origins in
    let one = paths_of-snoc origins origin in
    let extra = path_from paths origin ∷ [] in
    let many = length-paths_of origins in
    let total : place < length origins + 1 = omega (arith, within, length-append origins (origin ∷ [])) in
    elim (cases_lt place (length origins)) [
      | inl earlier ↦
          let at : place < length paths = omega (arith, earlier, many) in
          ap (λ ps. path_at ps place) one ∙ path_at-left paths extra place at
          ∙ known place earlier (sym (get_or_append_left origins (origin ∷ []) Root place earlier) ∙ is)
      | inr past ↦
          let last : place ≡ length origins + 0 = omega (arith, total, past) in
          let here : origin ≡ Root = sym (get_or-append-add origins (origin ∷ []) 0 Root) ∙ ap (λ k. get_or (origins ++ origin ∷ []) k Root) (sym last) ∙ is in
          let at : place ≡ length paths + 0 = omega (arith, last, many) in
          ap (λ ps. path_at ps place) one ∙ ap (path_at (paths ++ extra)) at ∙ path_at-right paths extra 0 ∙ first_at (path_from paths origin)
          ∙ from_root paths origin here
    ])
  where
    first_at : (path : List Decision) → path_at (path ∷ []) 0 ≡ path
    first_at path = refl

    from_root : (paths : List (List Decision)) (origin : Origin) → origin ≡ Root → path_from paths origin ≡ []
    from_root paths origin is = ap (path_from paths) is
