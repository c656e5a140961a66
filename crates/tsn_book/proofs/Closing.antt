-- Which places are closed, after one more settlement.
use Rattle.std.proofs.Common.{◌≡◌, ◌≢◌, ℕ, ◌+◌, ◌<◌, Bool, true, false, ◌&&◌, List, [], ◌∷◌, ◌++◌, length, take, drop, get_or, set, Contains, refl, sym, ap, ◌∙◌, subst, arith, append_assoc, ◌⊎◌, inl, inr}
use Rattle.std.specs.List.{slice_index_or}
use Rattle.std.proofs.lemmas.Bool.{cases_lt, cases_eq, and_from}
use Rattle.std.proofs.lemmas.List.{append-nil, take_all, drop_all, get_or_past, get_or_default, length-append, length-set, get_or-set_same, get_or-set_other, get_or_append_left, get_or-append-add}
use Rattle.std.proofs.Math.Bool.{and-false}
use Rattle.tsn_model.specs.declared.Triple.{Triple}
use Rattle.tsn_model.specs.declared.Side.{Side}
use Rattle.tsn_model.specs.declared.Side.TheVariants.{Left, Right}
use Rattle.tsn_model.specs.declared.Decision.{Decision}
use Rattle.tsn_model.specs.Network.{Network}
use Rattle.tsn_model.specs.Certificate.{decided}
use Rattle.tsn_model.specs.Search.{made_paths}
use Rattle.tsn_model.proofs.Paths.{decided-parts, nil-ne-decided}
use Rattle.tsn_book.specs.declared.statuses.Origin.{Origin}
use Rattle.tsn_book.specs.declared.statuses.Origin.TheVariants.{Root, Child}
use Rattle.tsn_book.specs.declared.statuses.Status.{Status}
use Rattle.tsn_book.specs.declared.statuses.Status.TheVariants.{Open, Split, Leaf}
use Rattle.tsn_book.specs.declared.log.Settled.{Settled}
use Rattle.tsn_book.specs.Arena.{path_at, paths_of, history_of, IsPlaced, IsTree, IsOpenPlace, IsChildOf, IsAfterParent, AreClosed, ClosedAt, IsNewLeaf, IsClosing, IsParent, IsParentClosed, flag_at}
use Rattle.tsn_book.proofs.Places.{length-paths_of, decided_by, nothing_below, child_path}
use Rattle.tsn_book.proofs.Walking.{place_made, same_triple}
use Rattle.tsn_book.proofs.Growing.{places_apart}

-- elements written back whole
pub written_back : {X : Type 0} (items was : List X) (len : ℕ) → len ≡ length was → length items ≡ length was
    → take len (items ++ drop (length items) was) ≡ items
written_back items was len is as_many =
    let none : drop (length items) was ≡ [] = drop_all (length items) was (omega (arith, as_many)) in
    ap (λ rest. take len (items ++ rest)) none ∙ ap (take len) (append-nil items) ∙ take_all len items (omega (arith, is, as_many))

-- a split stands at a place that exists
split_within : (statuses : List Status) (place : ℕ) (triple : Triple) (children event : ℕ) → slice_index_or statuses place Open ≡ Split triple children event
    → place < length statuses
split_within statuses place triple children event stands =
    elim (cases_lt place (length statuses)) [
      | inl below ↦ below
      | inr past ↦ absurd (no_split triple children event (sym (get_or_past statuses place Open past) ∙ stands))
    ]
  where
    no_split : (triple : Triple) (children event : ℕ) → Open ≡ Split triple children event → ⊥
    no_split triple children event same = cc

-- ---- children

module _ {network : Network} {origins : List Origin} {statuses : List Status} {events : List Settled} (tree : IsTree network origins statuses events) where
  -- the path of a child of a split
  pub child_side : (place child : ℕ) → place < length statuses → (of : IsChildOf statuses place child)
      → (side : Side) × (place < of.children) × (of.children + 1 < length statuses)
      × (path_at (paths_of origins) child ≡ decided (path_at (paths_of origins) place) of.triple side)
  child_side place child within of =
      let placed = subst (IsPlaced (paths_of origins) (history_of origins events) place) of.stands (tree.placed place (omega (arith, within, tree.counted))) in
      let wide : of.children + 1 < length statuses = omega (arith, placed.1, tree.counted, length-paths_of origins) in
      elim of.which [
        | inl is ↦ (Left, placed.4, wide, ap (path_at (paths_of origins)) is ∙ placed.2)
        | inr is ↦ (Right, placed.4, wide, ap (path_at (paths_of origins)) is ∙ placed.3)
      ]

  -- a place is the child of one place
  pub one_parent : (place other child : ℕ) → place < length statuses → other < length statuses
      → IsChildOf statuses place child → IsChildOf statuses other child → other ≢ place → ⊥
  one_parent place other child first second of its different =
      let a = child_side place child first of in
      let b = child_side other child second its in
      let parts = decided-parts (path_at (paths_of origins) other) (path_at (paths_of origins) place) its.triple of.triple b.0 a.0 (sym b.3 ∙ a.3) in
      places_apart network (paths_of origins) (history_of origins events) tree.legal tree.made other place
      (omega (arith, second, tree.counted, length-paths_of origins)) (omega (arith, first, tree.counted, length-paths_of origins)) different parts.0

-- a split that isn't the parent has other children
pub not_children : (statuses : List Status) (other place : ℕ) (triple : Triple) (children event : ℕ)
    → slice_index_or statuses other Open ≡ Split triple children event → (IsChildOf statuses other place → ⊥) → (children ≢ place) × (children + 1 ≢ place)
not_children statuses other place triple children event stands none = (
  λ same. none (record { triple = triple; children = children; event = event; stands = stands; which = inl (sym same) }),
  λ same. none (record { triple = triple; children = children; event = event; stands = stands; which = inr (sym same) }),
)

-- the flag of another place, that isn't the parent, stays right when a place is marked
pub other_stays : (statuses : List Status) (closed : List Bool) (other place : ℕ) → other ≢ place → (IsChildOf statuses other place → ⊥) → (status : Status)
    → slice_index_or statuses other Open ≡ status
    → ClosedAt closed other status → ClosedAt (set closed place true) other status
other_stays statuses closed other place apart none Open stands flags = get_or-set_other closed place other true false apart ∙ flags
other_stays statuses closed other place apart none (Leaf event) stands flags = get_or-set_other closed place other true false apart ∙ flags
other_stays statuses closed other place apart none (Split triple children event) stands flags =
    let elsewhere = not_children statuses other place triple children event stands none in
    get_or-set_other closed place other true false apart ∙ flags
    ∙ ap (λ b. b && flag_at closed (children + 1)) (sym (get_or-set_other closed place children true false elsewhere.0))
    ∙ ap (λ b. flag_at (set closed place true) children && b) (sym (get_or-set_other closed place (children + 1) true false elsewhere.1))

-- ---- marking

-- a split with a child that is open isn't closed
pub open_above : (closed : List Bool) (other place : ℕ) (children : ℕ) → (place ≡ children) ⊎ (place ≡ children + 1) → flag_at closed place ≡ false
    → flag_at closed other ≡ (flag_at closed children && flag_at closed (children + 1)) → flag_at closed other ≡ false
open_above closed other place children which unmarked flags =
    elim which [
      | inl is ↦ flags ∙ ap (λ b. b && flag_at closed (children + 1)) (ap (flag_at closed) (sym is) ∙ unmarked)
      | inr is ↦ flags ∙ ap (λ b. flag_at closed children && b) (ap (flag_at closed) (sym is) ∙ unmarked) ∙ and-false (flag_at closed children)
    ]

module _ {network : Network} {origins : List Origin} {statuses : List Status} {events : List Settled} (tree : IsTree network origins statuses events) where
  -- the new leaf is marked
  pub leaf_marked : (closed : List Bool) (place : ℕ)
      → IsNewLeaf statuses closed place → IsClosing statuses (set closed place true) place
  leaf_marked closed place leaf =
      let inside : place < length closed = omega (arith, leaf.within, leaf.counted) in
      let marked : flag_at (set closed place true) place ≡ true = get_or-set_same closed place true false inside in
      record {
        counted = length-set closed place true ∙ leaf.counted;
        within = leaf.within;
        marked = marked;
        others = λ other below none.
            elim (cases_eq other place) [
              | inl same ↦
                  subst (λ k. ClosedAt (set closed place true) k (slice_index_or statuses k Open)) (sym same)
                  (subst (ClosedAt (set closed place true) place) (sym leaf.stands) marked)
              | inr apart ↦
                  other_stays statuses closed other place apart none (slice_index_or statuses other Open) refl (leaf.others other below apart)
            ];
        above = λ other of. above other of;
      }
    where
      leaf_not_split : (triple : Triple) (children event number : ℕ) → Leaf number ≡ Split triple children event → ⊥
      leaf_not_split triple children event number same = cc

      above : (other : ℕ) → IsChildOf statuses other place → flag_at (set closed place true) other ≡ false
      above other of =
          let below : other < length statuses = split_within statuses other of.triple of.children of.event of.stands in
          let apart : other ≢ place = λ same. leaf_not_split of.triple of.children of.event leaf.event
          (sym leaf.stands ∙ ap (λ k. slice_index_or statuses k Open) (sym same) ∙ of.stands) in
          let flags = subst (ClosedAt closed other) of.stands (leaf.others other below apart) in
          get_or-set_other closed place other true false apart ∙ open_above closed other place of.children of.which leaf.unmarked flags

  -- the parent is marked
  pub parent_marked : (closed : List Bool) (parent place : ℕ)
      → IsClosing statuses closed place → IsParentClosed statuses closed parent place → IsClosing statuses (set closed parent true) parent
  parent_marked closed parent place closing found =
      let of = found.of in
      let below : parent < length statuses = split_within statuses parent of.triple of.children of.event of.stands in
      let inside : parent < length closed = omega (arith, below, closing.counted) in
      let marked : flag_at (set closed parent true) parent ≡ true = get_or-set_same closed parent true false inside in
      let left : of.children ≢ parent = omega (arith, found.before) in
      let right : of.children + 1 ≢ parent = omega (arith, found.before) in
      record {
        counted = length-set closed parent true ∙ closing.counted;
        within = below;
        marked = marked;
        others = λ other within none.
            elim (cases_eq other parent) [
              | inl same ↦
                  subst (λ k. ClosedAt (set closed parent true) k (slice_index_or statuses k Open)) (sym same)
                  (subst (ClosedAt (set closed parent true) parent) (sym of.stands)
                  (marked ∙ sym (and_from (flag_at (set closed parent true) of.children) (flag_at (set closed parent true) (of.children + 1))
                  (get_or-set_other closed parent of.children true false left ∙ found.left)
                  (get_or-set_other closed parent (of.children + 1) true false right ∙ found.right))))
              | inr apart ↦
                  other_stays statuses closed other parent apart none (slice_index_or statuses other Open) refl
                  (closing.others other within (λ its. one_parent tree parent other place below within of its apart))
            ];
        above = λ other its.
            let within : other < length statuses = split_within statuses other its.triple its.children its.event its.stands in
            let side = child_side tree other parent within its in
            let before : other < parent = earlier other parent its.children side.1 its.which in
            let apart : other ≢ parent = omega (arith, before) in
            let flags = subst (ClosedAt closed other) its.stands
            (closing.others other within (λ both. one_parent tree parent other place below within of both apart)) in
            get_or-set_other closed parent other true false apart ∙ open_above closed other parent its.children its.which (closing.above parent of) flags;
      }
    where
      earlier : (other parent children : ℕ) → other < children → (parent ≡ children) ⊎ (parent ≡ children + 1) → other < parent
      earlier other parent children less (inl is) = omega (arith, less, is)
      earlier other parent children less (inr is) = omega (arith, less, is)

  -- ---- where the marking ends

  -- at the root all flags are right
  pub root_closed : (closed : List Bool) (place : ℕ) → IsClosing statuses closed place → path_at (paths_of origins) place ≡ [] → AreClosed statuses closed
  root_closed closed place closing root =
      record {
        counted = closing.counted;
        each = λ other within. closing.others other within (λ of.
            let side = child_side tree other place within of in
            nil-ne-decided (path_at (paths_of origins) other) of.triple side.0 (sym root ∙ side.3));
      }

  -- two places of one path are one place
  same_place : (a b : ℕ) → a < length origins → b < length origins
      → path_at (paths_of origins) a ≡ path_at (paths_of origins) b → a ≡ b
  same_place a b first second same =
      elim (cases_eq a b) [
        | inl is ↦ is
        | inr apart ↦
            absurd (places_apart network (paths_of origins) (history_of origins events) tree.legal tree.made a b (omega (arith, first, length-paths_of origins))
            (omega (arith, second, length-paths_of origins)) apart same)
      ]

  -- what an origin says, as it is read
  pub origin_is : (place : ℕ) → place < length statuses
      → (origin is : Origin) → origin ≡ get_or origins place origin → origin ≡ is → (slice_index_or origins place Root ≡ is) × IsAfterParent place is
  origin_is place within origin is read same =
      let there : place < length origins = omega (arith, within, tree.counted) in
      let found : slice_index_or origins place Root ≡ is = get_or_default origins place Root origin there ∙ sym read ∙ same in
      (found, subst (IsAfterParent place) found (tree.parents place there))

  -- a parent was split
  pub parent_split : (place parent : ℕ) (decision : Decision) → place < length statuses
      → slice_index_or origins place Root ≡ Child parent decision → parent < place → (status : Status)
      → IsPlaced (paths_of origins) (history_of origins events) parent status
      → ((triple : Triple) (children event : ℕ) → status ≡ Split triple children event → ⊥) → ⊥
  parent_split place parent decision within origin before Open placed other =
      let there : place < length origins = omega (arith, within, tree.counted) in
      nothing_below tree parent decision Open placed tt
      (subst (Contains (made_paths (history_of origins events))) (child_path origins place parent decision there origin before) (place_made tree place there))
  parent_split place parent decision within origin before (Leaf event) placed other =
      let there : place < length origins = omega (arith, within, tree.counted) in
      nothing_below tree parent decision (Leaf event) placed tt
      (subst (Contains (made_paths (history_of origins events))) (child_path origins place parent decision there origin before) (place_made tree place there))
  parent_split place parent decision within origin before (Split triple children event) placed other = other triple children event refl

  -- the place is one of its parent's children
  pub parent_child : (place parent : ℕ) (decision : Decision) → place < length statuses
      → slice_index_or origins place Root ≡ Child parent decision → parent < place → (triple : Triple) (children event : ℕ)
      → slice_index_or statuses parent Open ≡ Split triple children event
      → (place ≡ children) ⊎ (place ≡ children + 1)
  parent_child place parent decision within origin before triple children event stands =
      by_side decision.side turned
    where
      there : place < length origins
      there = omega (arith, within, tree.counted)

      placed : IsPlaced (paths_of origins) (history_of origins events) parent (Split triple children event)
      placed = subst (IsPlaced (paths_of origins) (history_of origins events) parent) stands (tree.placed parent (omega (arith, there, before)))

      turned : path_at (paths_of origins) place ≡ decided (path_at (paths_of origins) parent) triple decision.side
      turned =
          let path = path_at (paths_of origins) parent in
          let is = child_path origins place parent decision there origin before in
          let made = subst (Contains (made_paths (history_of origins events))) is (place_made tree place there) in
          let same = same_triple tree.legal path triple event placed.0 decision made in
          is ∙ sym (decided_by path decision) ∙ ap (λ t. decided path t decision.side) (sym same)

      by_side : (side : Side) → path_at (paths_of origins) place ≡ decided (path_at (paths_of origins) parent) triple side
          → (place ≡ children) ⊎ (place ≡ children + 1)
      by_side Left turns =
          let first : children < length origins = omega (arith, placed.1, length-paths_of origins) in
          inl (same_place place children there first (turns ∙ sym placed.2))
      by_side Right turns =
          let second : children + 1 < length origins = omega (arith, placed.1, length-paths_of origins) in
          inr (same_place place (children + 1) there second (turns ∙ sym placed.3))

  -- the parent of a place, as its status is read
  pub parent_is : (place parent : ℕ) (decision : Decision) → place < length statuses → slice_index_or origins place Root ≡ Child parent decision
      → parent < place
      → (triple : Triple) (children event : ℕ) → slice_index_or statuses parent Open ≡ Split triple children event → IsParent statuses parent children place
  parent_is place parent decision within origin before triple children event stands =
      let which = parent_child place parent decision within origin before triple children event stands in
      let of : IsChildOf statuses parent place = record { triple = triple; children = children; event = event; stands = stands; which = which } in
      let side = child_side tree parent place (omega (arith, within, before)) of in
      record { of = of; first = refl; before = side.1; within = side.2 }

  -- where the parent's children aren't both closed, all flags are right
  pub parent_open : (closed : List Bool) (place parent children : ℕ) → IsClosing statuses closed place → IsParent statuses parent children place
      → (flag_at closed children && flag_at closed (children + 1)) ≡ false → AreClosed statuses closed
  parent_open closed place parent children closing found some =
      let of = found.of in
      let below : parent < length statuses = split_within statuses parent of.triple of.children of.event of.stands in
      record {
        counted = closing.counted;
        each = λ other within.
            elim (cases_eq other parent) [
              | inl same ↦
                  subst (λ k. ClosedAt closed k (slice_index_or statuses k Open)) (sym same)
                  (subst (ClosedAt closed parent) (sym of.stands)
                  (closing.above parent of ∙ sym some ∙ ap (λ first. flag_at closed first && flag_at closed (first + 1)) (sym found.first)))
              | inr apart ↦ closing.others other within (λ its. one_parent tree parent other place below within of its apart)
            ];
      }

-- both children of the parent are closed
pub parent_closed : {statuses : List Status} {closed : List Bool} {parent children place : ℕ} → IsParent statuses parent children place
    → flag_at closed children ≡ true → flag_at closed (children + 1) ≡ true → IsParentClosed statuses closed parent place
parent_closed {closed = closed} {parent} found left right =
    record {
      of = found.of;
      before = omega (arith, found.before, found.first);
      left = ap (flag_at closed) found.first ∙ left;
      right = ap (λ first. flag_at closed (first + 1)) found.first ∙ right;
    }

-- ---- settlements

-- before a leaf is marked
pub new_leaf : (statuses : List Status) (closed : List Bool) (place number : ℕ) → AreClosed statuses closed → IsOpenPlace statuses place
    → IsNewLeaf (set statuses place (Leaf number)) closed place
new_leaf statuses closed place number flags at = record {
  counted = flags.counted ∙ sym (length-set statuses place (Leaf number));
  within = omega (arith, at.within, length-set statuses place (Leaf number));
  event = number;
  stands = get_or-set_same statuses place (Leaf number) Open at.within;
  unmarked = subst (ClosedAt closed place) at.is_open (flags.each place at.within);
  others = λ other within apart.
      let was : other < length statuses = omega (arith, within, length-set statuses place (Leaf number)) in
      subst (ClosedAt closed other) (sym (get_or-set_other statuses place other (Leaf number) Open apart)) (flags.each other was);
}

module _ {network : Network} {origins : List Origin} {statuses : List Status} {events : List Settled} (tree : IsTree network origins statuses events) where
  -- flags stay right when more are put at the end
  longer_flags : (closed more : List Bool) → length closed ≡ length statuses
      → (place : ℕ) → place < length statuses → (status : Status) → IsPlaced (paths_of origins) (history_of origins events) place status
      → ClosedAt closed place status → ClosedAt (closed ++ more) place status
  longer_flags closed more as_many place inside Open placed flags = get_or_append_left closed more false place (omega (arith, inside, as_many)) ∙ flags
  longer_flags closed more as_many place inside (Leaf event) placed flags = get_or_append_left closed more false place (omega (arith, inside, as_many)) ∙ flags
  longer_flags closed more as_many place inside (Split triple children event) placed flags =
      let left : children < length closed = omega (arith, placed.1, as_many, tree.counted, length-paths_of origins) in
      let right : children + 1 < length closed = omega (arith, placed.1, as_many, tree.counted, length-paths_of origins) in
      get_or_append_left closed more false place (omega (arith, inside, as_many)) ∙ flags
      ∙ ap (λ b. b && flag_at closed (children + 1)) (sym (get_or_append_left closed more false children left))
      ∙ ap (λ b. flag_at (closed ++ more) children && b) (sym (get_or_append_left closed more false (children + 1) right))

  -- after a split both its children are open
  pub split_flags : (closed : List Bool) (place children number : ℕ) (triple : Triple)
      → AreClosed statuses closed → IsOpenPlace statuses place → children ≡ length origins
      → AreClosed ((set statuses place (Split triple children number) ++ Open ∷ []) ++ Open ∷ []) ((closed ++ false ∷ []) ++ false ∷ [])
  split_flags closed place children number triple flags at first_child =
      let new = Split triple children number in
      let written = set statuses place new in
      let kept : length written ≡ length statuses = length-set statuses place new in
      let n : length statuses ≡ children = omega (arith, first_child, tree.counted) in
      let opens = Open ∷ Open ∷ [] in
      let more = false ∷ false ∷ [] in
      let all : AreClosed (written ++ opens) (closed ++ more) = record {
        counted = omega (arith, flags.counted, kept, length-append closed more, length-append written opens);
        each = λ other inside.
            elim (cases_lt other (length statuses)) [
              | inl earlier ↦
                  let read = get_or_append_left written opens Open other (omega (arith, earlier, kept)) in
                  elim (cases_eq other place) [
                    | inl same ↦
                        let is : get_or (written ++ opens) other Open ≡ new =
                        read ∙ ap (λ j. get_or written j Open) same ∙ get_or-set_same statuses place new Open at.within in
                        let unmarked : flag_at closed place ≡ false = subst (ClosedAt closed place) at.is_open (flags.each place at.within) in
                        let own : place < length closed = omega (arith, at.within, flags.counted) in
                        let first : flag_at (closed ++ more) children ≡ false =
                        ap (flag_at (closed ++ more)) (sum_zero children (length closed) (omega (arith, n, flags.counted)))
                        ∙ get_or-append-add closed more 0 false in
                        subst (ClosedAt (closed ++ more) other) (sym is)
                        (ap (flag_at (closed ++ more)) same ∙ get_or_append_left closed more false place own ∙ unmarked
                        ∙ ap (λ b. b && flag_at (closed ++ more) (children + 1)) (sym first))
                    | inr elsewhere ↦
                        let there : other < length origins = omega (arith, earlier, tree.counted) in
                        subst (ClosedAt (closed ++ more) other) (sym (read ∙ get_or-set_other statuses place other new Open elsewhere))
                        (longer_flags closed more flags.counted other earlier (slice_index_or statuses other Open) (tree.placed other there)
                        (flags.each other earlier))
                  ]
              | inr later ↦
                  let total : other < length statuses + 2 = omega (arith, inside, kept, length-append written opens) in
                  elim (cases_eq other (length statuses)) [
                    | inl same ↦
                        subst (ClosedAt (closed ++ more) other)
                        (sym (ap (λ j. get_or (written ++ opens) j Open) (sum_zero other (length written) (same ∙ sym kept))
                        ∙ get_or-append-add written opens 0 Open))
                        (ap (flag_at (closed ++ more)) (sum_zero other (length closed) (same ∙ sym flags.counted)) ∙ get_or-append-add closed more 0 false)
                    | inr apart ↦
                        let last : other ≡ length written + 1 = omega (arith, total, later, apart, kept) in
                        let flag : other ≡ length closed + 1 = omega (arith, total, later, apart, flags.counted) in
                        subst (ClosedAt (closed ++ more) other)
                        (sym (ap (λ j. get_or (written ++ opens) j Open) last ∙ get_or-append-add written opens 1 Open))
                        (ap (flag_at (closed ++ more)) flag ∙ get_or-append-add closed more 1 false)
                  ]
            ];
      } in
      subst (λ ss. AreClosed ss ((closed ++ false ∷ []) ++ false ∷ [])) (sym (append_assoc written (Open ∷ []) (Open ∷ [])))
      (subst (AreClosed (written ++ opens)) (sym (append_assoc closed (false ∷ []) (false ∷ []))) all)
    where
      sum_zero : (k n : ℕ) → k ≡ n → k ≡ n + 0
      sum_zero k n same = omega (arith, same)
