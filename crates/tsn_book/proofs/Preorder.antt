-- The walk that spells a finished tree.
use Rattle.std.proofs.Common.{pos, ◌≡◌, ◌≢◌, ℕ, ◌+◌, ◌<◌, List, [], ◌∷◌, ◌++◌, map, length, All, AllPairs, Contains, true, refl, sym, ap, ap₂, ◌∙◌, subst, arith, append_assoc, Option, Some}
use Rattle.std.specs.Prelude.{slice_get, IsPermutation}
use Rattle.std.specs.List.{slice_index_or}
use Rattle.std.proofs.lemmas.Bool.{both_ways}
use Rattle.std.proofs.lemmas.List.{append-nil, length-append, length-map, map-append, nil_from_length, get_or_default}
use Rattle.std.proofs.lemmas.List.Elements.{All-nil, All-cons, All-head, All-tail, All-weaker, All-contains, Contains-append_left, Contains-append_right}
use Rattle.std.proofs.lemmas.List.Kept.{AllPairs-cons}
use Rattle.std.proofs.lemmas.Option.{slice_get_within}
use Rattle.std.proofs.lemmas.List.Sorted.{IsPermutation-sym, All-permutation, Contains-permutation, length_permutation}
use Rattle.tsn_model.specs.declared.Triple.{Triple}
use Rattle.tsn_model.specs.declared.Side.TheVariants.{Left, Right}
use Rattle.tsn_model.specs.declared.Decision.{Decision}
use Rattle.tsn_model.specs.Network.{Network}
use Rattle.tsn_model.specs.Certificate.{Node, decided}
use Rattle.tsn_model.specs.Search.{Outcome, split, solved, pruned, tied, refuted, Settlement, children_of, open_paths, kept_of, is_settled, IsLegal}
use Rattle.tsn_model.proofs.Lists.{Contains-head, Contains-more, AllPairs-head, AllPairs-tail}
use Rattle.tsn_timing.specs.Solution.{Solution}
use Rattle.tsn_model.specs.Order.{node_of}
use Rattle.tsn_model.specs.SearchLaws.{AreAcceptedTree}
use Rattle.tsn_model.proofs.SearchLists.{AllPairs-nil}
use Rattle.tsn_model.proofs.Histories.{settled_at}
use Rattle.tsn_model.proofs.Growths.{Growth, open_place, leaf_place, branch_place, in_order, open_in, Stands, Backs, legal_growth, grown_tree, nil-left, nil-right}
use Rattle.tsn_model.proofs.Preorders.{SettledBefore, in_order_ordered, Precedes-irreflexive}
use Rattle.tsn_model.proofs.Finished.{history_backed}
use Rattle.tsn_conflict.specs.Outcome.{outcome_of}
use Rattle.tsn_conflict.specs.declared.outcome.Look.TheVariants.{Split as FoundSplit}
use Rattle.tsn_book.specs.declared.statuses.Origin.{Origin}
use Rattle.tsn_book.specs.declared.statuses.Status.{Status}
use Rattle.tsn_book.specs.declared.statuses.Status.TheVariants.{Open, Split, Leaf}
use Rattle.tsn_book.specs.declared.log.Settled.{Settled}
use Rattle.tsn_book.specs.Arena.{path_at, paths_of, history_of, IsEvent, IsPlaced, IsTree}
use Rattle.tsn_book.specs.Book.{SpellsAccepted, AreNodesOf, planned, IsPlanOf, HasTie}
use Rattle.tsn_book.specs.Spelling.{rest_of, IsGrown, Waits, AreNumbers, IsWalk, IsOrder, numbered_node, left_nodes, IsSpelling}
use Rattle.tsn_book.proofs.Places.{length-paths_of, event_among, same_settlement, root_place, leaf_is_no_split}
use Rattle.tsn_book.proofs.Asking.{length-history_of}
use Rattle.tsn_book.proofs.Bookkeeping.{stored_outcome}
use Rattle.tsn_book.proofs.Tying.{settled_tie}

-- ---- what waits

pub rest_of-snoc : (growths : List Growth) (growth : Growth) → rest_of (growths ++ growth ∷ []) ≡ in_order growth ++ rest_of growths
unfolding rest_of
rest_of-snoc [] growth = sym (append-nil (in_order growth))
rest_of-snoc (first ∷ growths) growth =
    ap (λ rest. rest ++ in_order first) (rest_of-snoc growths growth) ∙ append_assoc (in_order growth) (rest_of growths) (in_order first)

pub Waits-snoc : (paths : List (List Decision)) (places : List ℕ) (growths : List Growth) (place : ℕ) (growth : Growth) → Waits paths places growths
    → IsGrown paths place growth
    → Waits paths (places ++ place ∷ []) (growths ++ growth ∷ [])
Waits-snoc paths [] [] place growth waits is = (is, tt)
Waits-snoc paths [] (other ∷ growths) place growth waits is = absurd waits
Waits-snoc paths (other ∷ places) [] place growth waits is = absurd waits
Waits-snoc paths (other ∷ places) (first ∷ growths) place growth waits is = (waits.0, Waits-snoc paths places growths place growth waits.1 is)

-- the last place that waits, and the others
pub record LastWaits (paths : List (List Decision)) (places : List ℕ) (place : ℕ) (growths : List Growth) : Type 0 where
  pub others : List Growth
  pub growth : Growth
  pub is : growths ≡ others ++ growth ∷ []
  pub wait : Waits paths places others
  pub grown : IsGrown paths place growth

pub last_waits : (paths : List (List Decision)) (places : List ℕ) (place : ℕ) (growths : List Growth) → Waits paths (places ++ place ∷ []) growths
    → LastWaits paths places place growths
last_waits paths [] place [] waits = absurd waits
last_waits paths [] place (growth ∷ []) waits = record { others = []; growth = growth; is = refl; wait = tt; grown = waits.0 }
last_waits paths [] place (growth ∷ other ∷ growths) waits = absurd waits.1
last_waits paths (other ∷ places) place [] waits = absurd waits
last_waits paths (other ∷ places) place (first ∷ growths) waits =
    let last = last_waits paths places place growths waits.1 in
    record { others = first ∷ last.others; growth = last.growth; is = ap (λ gs. first ∷ gs) last.is; wait = (waits.0, last.wait); grown = last.grown }

pub none_wait : (paths : List (List Decision)) (growths : List Growth) → Waits paths [] growths → growths ≡ []
none_wait paths [] waits = refl
none_wait paths (growth ∷ growths) waits = absurd waits

-- ---- what a place gives

-- the settlement at the root of a growth with nothing open, and what is below it
pub record Headed (path : List Decision) (growth : Growth) : Type 0 where
  pub first : Settlement
  pub more : List Settlement
  pub is : in_order growth ≡ first ∷ more
  pub at : first.event.path ≡ path

pub headed : (path : List Decision) (growth : Growth) → Stands path growth → open_in path growth ≡ [] → Headed path growth
unfolding in_order open_in
headed path open_place stands closed = let clash : path ∷ [] ≡ [] = closed in cc
headed path (leaf_place settlement) stands closed = record { first = settlement; more = []; is = refl; at = stands.0 }
headed path (branch_place settlement triple first second) stands closed =
    record { first = settlement; more = in_order first ++ in_order second; is = refl; at = stands.0 }

-- ---- the walk

module _ {network : Network} {origins : List Origin} {statuses : List Status} {events : List Settled} (tree : IsTree network origins statuses events) where
  -- the walk's first step
  pub walk_begins : open_paths (history_of origins events) ≡ []
      → IsWalk (paths_of origins) (history_of origins events) (0 ∷ []) []
  unfolding rest_of
  walk_begins finished =
      let of = legal_growth network (history_of origins events) tree.legal in
      let closed : open_in [] of.growth ≡ [] = nil_from_length (open_in [] of.growth) (of.as_many_open ∙ ap length finished) in
      let root = root_place tree in
      record {
        whole = of.growth;
        same = of.same_settled;
        stands = of.stands;
        closed = closed;
        done = [];
        growths = of.growth ∷ [];
        waits = (
          record {
            within = omega (arith, root.0, length-paths_of origins);
            stands = subst (λ path. Stands path of.growth) (sym root.1) of.stands;
            closed = subst (λ path. open_in path of.growth ≡ []) (sym root.1) closed;
          },
          tt,
        );
        parts = refl;
        numbered = refl;
      }

module _ {paths : List (List Decision)} {history : List Settlement} {stack numbers : List ℕ} (walk : IsWalk paths history stack numbers) where
  -- what is still to be passed was settled
  rest_among : (settlement : Settlement) → Contains (rest_of walk.growths) settlement → Contains history settlement
  rest_among settlement found =
      Contains-permutation (in_order walk.whole) history settlement (IsPermutation-sym history (in_order walk.whole) walk.same)
      (subst (λ xs. Contains xs settlement) (sym walk.parts) (Contains-append_right walk.done (rest_of walk.growths) settlement found))

-- the top of the stack
record Top (paths : List (List Decision)) (history : List Settlement) (stack : List ℕ) (place : ℕ) (numbers : List ℕ) : Type 0 where
  walk : IsWalk paths history (stack ++ place ∷ []) numbers
  others : List Growth
  growth : Growth
  wait : Waits paths stack others
  grown : IsGrown paths place growth
  rest : rest_of walk.growths ≡ in_order growth ++ rest_of others
  head : Headed (path_at paths place) growth
  among : Contains history head.first
  waiting : Contains (rest_of walk.growths) head.first

-- as many numbers as settlements
numbers_counted : (history : List Settlement) (numbers : List ℕ) (settlements : List Settlement) → AreNumbers history numbers settlements
    → length numbers ≡ length settlements
numbers_counted history numbers settlements numbered = sym (length-map numbers (slice_get history)) ∙ ap length numbered ∙ length-map settlements (λ s. Some s)

module _ {paths : List (List Decision)} {history : List Settlement} (stack : List ℕ) (place : ℕ) {numbers : List ℕ}
    (walk : IsWalk paths history (stack ++ place ∷ []) numbers) where
  top : Top paths history stack place numbers
  top =
      let last = last_waits paths stack place walk.growths walk.waits in
      let head = headed (path_at paths place) last.growth last.grown.stands last.grown.closed in
      let rest : rest_of walk.growths ≡ in_order last.growth ++ rest_of last.others = ap rest_of last.is ∙ rest_of-snoc last.others last.growth in
      let waiting : Contains (rest_of walk.growths) head.first =
      subst (λ xs. Contains xs head.first) (sym (rest ∙ ap (λ xs. xs ++ rest_of last.others) head.is))
      (Contains-head head.first (head.more ++ rest_of last.others)) in
      record {
        walk = walk;
        others = last.others;
        growth = last.growth;
        wait = last.wait;
        grown = last.grown;
        rest = rest;
        head = head;
        among = rest_among walk head.first waiting;
        waiting = waiting;
      }

  -- there is room for one more number
  pub walk_room : length numbers < length history
  walk_room =
      let at = top in
      let total : length (in_order at.walk.whole) ≡ length at.walk.done + length (rest_of at.walk.growths) =
      ap length at.walk.parts ∙ length-append at.walk.done (rest_of at.walk.growths) in
      let many = length_permutation history (in_order at.walk.whole) at.walk.same in
      let so_far = numbers_counted history numbers at.walk.done at.walk.numbered in
      omega (arith, total, many, so_far, at.waiting.1)

  -- ---- steps

  -- an open place doesn't wait
  pub open_waits : IsPlaced paths history place Open → ⊥
  open_waits placed =
      let at = top in
      both_ways (is_settled history (path_at paths place)) placed
      (subst (λ path. is_settled history path ≡ true) at.head.at (settled_at history at.head.first at.among))

-- a place that waits exists
pub waits_within : (origins : List Origin) (history : List Settlement) (stack : List ℕ) (place : ℕ) (numbers : List ℕ)
    → IsWalk (paths_of origins) history (stack ++ place ∷ []) numbers → place < length origins
waits_within origins history stack place numbers walk =
    let at = top stack place walk in
    omega (arith, at.grown.within, length-paths_of origins)

module _ {paths : List (List Decision)} {history : List Settlement} {stack numbers : List ℕ} (walk : IsWalk paths history stack numbers) where
  -- one more settlement is passed
  advance : (settlement : Settlement) (growths : List Growth) → rest_of walk.growths ≡ settlement ∷ rest_of growths
      → (places : List ℕ) → Waits paths places growths
      → (number : ℕ) → slice_get history number ≡ Some settlement → IsWalk paths history places (numbers ++ number ∷ [])
  advance settlement growths rest places waits number there =
      record {
        whole = walk.whole;
        same = walk.same;
        stands = walk.stands;
        closed = walk.closed;
        done = walk.done ++ settlement ∷ [];
        growths = growths;
        waits = waits;
        parts = walk.parts ∙ ap (λ xs. walk.done ++ xs) rest ∙ sym (append_assoc walk.done (settlement ∷ []) (rest_of growths));
        numbered = map-append (slice_get history) numbers (number ∷ [])
            ∙ ap₂ (λ xs x. xs ++ x ∷ []) walk.numbered there
            ∙ sym (map-append (λ (s : Settlement). Some s) walk.done (settlement ∷ []));
      }

module _ {network : Network} {history : List Settlement} (legal : IsLegal network history) where
  -- the settlement of a place, by its event
  one_settlement : (path : List Decision) (outcome : Outcome) (event : ℕ) → (is : IsEvent history event path outcome)
      → (settlement : Settlement) → Contains history settlement → settlement.event.path ≡ path
      → settlement ≡ record { teller = is.there.0; event = record { path = path; outcome = outcome } }
  one_settlement path outcome event is settlement found at =
      let stored : Settlement = record { teller = is.there.0; event = record { path = path; outcome = outcome } } in
      same_settlement legal settlement stored found (event_among history stored event is.within is.there.1) at

-- what has grown at a split
record SplitParts (paths : List (List Decision)) (history : List Settlement) (growth : Growth) (children event : ℕ) : Type 0 where
  settlement : Settlement
  first : Growth
  second : Growth
  is : in_order growth ≡ settlement ∷ (in_order first ++ in_order second)
  there : slice_get history event ≡ Some settlement
  left : IsGrown paths children first
  right : IsGrown paths (children + 1) second

module _ {network : Network} (paths : List (List Decision)) {history : List Settlement} (legal : IsLegal network history) (place : ℕ) where
  split_parts : (triple : Triple) (children event : ℕ) → IsPlaced paths history place (Split triple children event)
      → (growth : Growth) → Stands (path_at paths place) growth → open_in (path_at paths place) growth ≡ []
      → ((settlement : Settlement) → Contains (in_order growth) settlement → Contains history settlement)
      → SplitParts paths history growth children event
  unfolding in_order open_in children_of
  split_parts triple children event placed open_place stands closed among =
      let clash : path_at paths place ∷ [] ≡ [] = closed in cc
  split_parts triple children event placed (leaf_place settlement) stands closed among =
      let same = one_settlement legal (path_at paths place) (split triple) event placed.0 settlement
      (among settlement (Contains-head settlement [])) stands.0 in
      let none : children_of settlement.event.path (split triple) ≡ [] =
      ap (children_of settlement.event.path) (sym (ap (λ (s : Settlement). s.event.outcome) same)) ∙ stands.1 in
      let clash : decided settlement.event.path triple Left ∷ decided settlement.event.path triple Right ∷ [] ≡ [] = none in
      cc
  split_parts triple children event placed (branch_place settlement its first second) stands closed among =
      let path = path_at paths place in
      let same = one_settlement legal path (split triple) event placed.0 settlement
      (among settlement (Contains-head settlement (in_order first ++ in_order second))) stands.0 in
      let is : its ≡ triple = ap (triple_of triple) (sym stands.1 ∙ ap (λ (s : Settlement). s.event.outcome) same) in
      let left : path_at paths children ≡ decided path its Left = placed.2 ∙ ap (λ t. decided path t Left) (sym is) in
      let right : path_at paths (children + 1) ≡ decided path its Right = placed.3 ∙ ap (λ t. decided path t Right) (sym is) in
      record {
        settlement = settlement;
        first = first;
        second = second;
        is = refl;
        there = placed.0.there.1 ∙ ap (λ s. Some s) (sym same);
        left = record {
          within = omega (arith, placed.1);
          stands = subst (λ p. Stands p first) (sym left) stands.2;
          closed = subst (λ p. open_in p first ≡ []) (sym left)
              (nil-left (open_in (decided path its Left) first) (open_in (decided path its Right) second) closed);
        };
        right = record {
          within = placed.1;
          stands = subst (λ p. Stands p second) (sym right) stands.3;
          closed = subst (λ p. open_in p second ≡ []) (sym right)
              (nil-right (open_in (decided path its Left) first) (open_in (decided path its Right) second) closed);
        };
      }
    where
      triple_of : Triple → Outcome → Triple
      triple_of d (split t) = t
      triple_of d (solved offsets bound leaf chains) = d
      triple_of d (pruned bound leaf) = d
      triple_of d (tied bound leaf chains) = d
      triple_of d (refuted leaf) = d

-- what is at the top of the stack was settled
top_among : {paths : List (List Decision)} {history : List Settlement} {stack : List ℕ} {place : ℕ} {numbers : List ℕ}
    (at : Top paths history stack place numbers)
    → (settlement : Settlement) → Contains (in_order at.growth) settlement → Contains history settlement
top_among at settlement found =
    rest_among at.walk settlement
    (subst (λ xs. Contains xs settlement) (sym at.rest) (Contains-append_left (in_order at.growth) (rest_of at.others) settlement found))

module _ {network : Network} {paths : List (List Decision)} {history : List Settlement} (legal : IsLegal network history)
    (stack : List ℕ) (place : ℕ) {numbers : List ℕ} (walk : IsWalk paths history (stack ++ place ∷ []) numbers) where
  -- a split is passed
  pub split_passed : (triple : Triple) (children event : ℕ) → IsPlaced paths history place (Split triple children event)
      → IsWalk paths history ((stack ++ (children + 1) ∷ []) ++ children ∷ []) (numbers ++ event ∷ [])
  split_passed triple children event placed =
      let at = top stack place walk in
      let parts = split_parts paths legal place triple children event placed at.growth at.grown.stands at.grown.closed (top_among at) in
      let growths : List Growth = (at.others ++ parts.second ∷ []) ++ parts.first ∷ [] in
      let new_rest : rest_of growths ≡ in_order parts.first ++ (in_order parts.second ++ rest_of at.others) =
      rest_of-snoc (at.others ++ parts.second ∷ []) parts.first ∙ ap (λ xs. in_order parts.first ++ xs) (rest_of-snoc at.others parts.second) in
      let rest : rest_of at.walk.growths ≡ parts.settlement ∷ rest_of growths =
      at.rest ∙ ap (λ xs. xs ++ rest_of at.others) parts.is
      ∙ ap (λ xs. parts.settlement ∷ xs) (append_assoc (in_order parts.first) (in_order parts.second) (rest_of at.others) ∙ sym new_rest) in
      advance at.walk parts.settlement growths rest ((stack ++ (children + 1) ∷ []) ++ children ∷ [])
      (Waits-snoc paths (stack ++ (children + 1) ∷ []) (at.others ++ parts.second ∷ []) children parts.first
      (Waits-snoc paths stack at.others (children + 1) parts.second at.wait parts.right) parts.left)
      event parts.there

-- what has grown at a leaf
record LeafParts (history : List Settlement) (growth : Growth) (event : ℕ) : Type 0 where
  settlement : Settlement
  is : in_order growth ≡ settlement ∷ []
  there : slice_get history event ≡ Some settlement

module _ {network : Network} (paths : List (List Decision)) {history : List Settlement} (legal : IsLegal network history) (place : ℕ) where
  leaf_parts : (event : ℕ) → IsPlaced paths history place (Leaf event)
      → (growth : Growth) → Stands (path_at paths place) growth → open_in (path_at paths place) growth ≡ []
      → ((settlement : Settlement) → Contains (in_order growth) settlement → Contains history settlement)
      → LeafParts history growth event
  unfolding in_order open_in
  leaf_parts event placed open_place stands closed among = let clash : path_at paths place ∷ [] ≡ [] = closed in cc
  leaf_parts event placed (leaf_place settlement) stands closed among =
      let same = one_settlement legal (path_at paths place) placed.0 event placed.1 settlement (among settlement (Contains-head settlement [])) stands.0 in
      record { settlement = settlement; is = refl; there = placed.1.there.1 ∙ ap (λ s. Some s) (sym same) }
  leaf_parts event placed (branch_place settlement its first second) stands closed among =
      let same = one_settlement legal (path_at paths place) placed.0 event placed.1 settlement
      (among settlement (Contains-head settlement (in_order first ++ in_order second))) stands.0 in
      absurd (leaf_is_no_split (path_at paths place) placed.0 its placed.2 (sym (ap (λ (s : Settlement). s.event.outcome) same) ∙ stands.1))

module _ {network : Network} {paths : List (List Decision)} {history : List Settlement} (legal : IsLegal network history)
    (stack : List ℕ) (place : ℕ) {numbers : List ℕ} (walk : IsWalk paths history (stack ++ place ∷ []) numbers) where
  -- a leaf is passed
  pub leaf_passed : (event : ℕ) → IsPlaced paths history place (Leaf event) → IsWalk paths history stack (numbers ++ event ∷ [])
  leaf_passed event placed =
      let at = top stack place walk in
      let parts = leaf_parts paths legal place event placed at.growth at.grown.stands at.grown.closed (top_among at) in
      advance at.walk parts.settlement at.others (at.rest ∙ ap (λ xs. xs ++ rest_of at.others) parts.is) stack at.wait event parts.there

-- ---- the walk's end

module _ {network : Network} {paths : List (List Decision)} {history : List Settlement} (legal : IsLegal network history) where
  pub walk_done : (numbers : List ℕ) → IsWalk paths history [] numbers → IsOrder network history numbers
  unfolding rest_of
  walk_done numbers walk =
      let plan : Option (List ℕ) = kept_of network history in
      let all : in_order walk.whole ≡ walk.done =
      walk.parts ∙ ap (λ growths. walk.done ++ rest_of growths) (none_wait paths walk.growths walk.waits) ∙ append-nil walk.done in
      let backs = All-permutation (λ (s : Settlement). Backs network plan s.event.path s.event.outcome) history (in_order walk.whole) walk.same
      (history_backed network history legal) in
      let of = grown_tree network plan [] walk.whole walk.stands walk.closed backs in
      record {
        ordered = walk.done;
        same = subst (IsPermutation history) all walk.same;
        in_order = subst (AllPairs SettledBefore) all (in_order_ordered [] walk.whole walk.stands);
        accepted = subst (AreAcceptedTree network plan) all (of.tree, of.accepts, sym of.nodes);
        numbered = walk.numbered;
      }

-- ---- the nodes of an order

-- what a list of numbers reads is a list of settlements, one by one
numbers_head : (history : List Settlement) (number : ℕ) (numbers : List ℕ) (settlement : Settlement) (settlements : List Settlement)
    → AreNumbers history (number ∷ numbers) (settlement ∷ settlements)
    → (slice_get history number ≡ Some settlement) × AreNumbers history numbers settlements
numbers_head history number numbers settlement settlements numbered = (heads numbered, tails numbered)
  where
    heads : {X : Type 0} {a b : X} {as' bs : List X} → a ∷ as' ≡ b ∷ bs → a ≡ b
    heads same = cc

    tails : {X : Type 0} {a b : X} {as' bs : List X} → a ∷ as' ≡ b ∷ bs → as' ≡ bs
    tails same = cc

-- each number is that of a settlement
each_numbered : (P : ℕ → Type 0) (history : List Settlement) (numbers : List ℕ) (settlements : List Settlement) → AreNumbers history numbers settlements
    → ((number : ℕ) (settlement : Settlement) → slice_get history number ≡ Some settlement → Contains settlements settlement → P number) → All P numbers
each_numbered P history [] settlements numbered holds = All-nil P
each_numbered P history (number ∷ numbers) [] numbered holds = let clash : map (slice_get history) (number ∷ numbers) ≡ [] = numbered in cc
each_numbered P history (number ∷ numbers) (settlement ∷ settlements) numbered holds =
    let parts = numbers_head history number numbers settlement settlements numbered in
    All-cons P number numbers (holds number settlement parts.0 (Contains-head settlement settlements))
    (each_numbered P history numbers settlements parts.1 (λ n s there found. holds n s there (Contains-more settlement settlements s found)))

-- no number stands there twice
pub numbers_differ : (history : List Settlement) (numbers : List ℕ) (settlements : List Settlement) → AreNumbers history numbers settlements
    → AllPairs SettledBefore settlements → AllPairs ◌≢◌ numbers
numbers_differ history [] settlements numbered ordered = AllPairs-nil ◌≢◌
numbers_differ history (number ∷ numbers) [] numbered ordered = let clash : map (slice_get history) (number ∷ numbers) ≡ [] = numbered in cc
numbers_differ history (number ∷ numbers) (settlement ∷ settlements) numbered ordered =
    let parts = numbers_head history number numbers settlement settlements numbered in
    let later = AllPairs-head SettledBefore settlement settlements ordered in
    AllPairs-cons ◌≢◌ number numbers
    (each_numbered (λ n. number ≢ n) history numbers settlements parts.1 (λ n s there found same.
    let again : settlement ≡ s = some_same settlement s (sym parts.0 ∙ ap (slice_get history) same ∙ there) in
    Precedes-irreflexive settlement.event.path
    (subst (SettledBefore settlement) (sym again) (All-contains (SettledBefore settlement) settlements s later found))))
    (numbers_differ history numbers settlements parts.1 (AllPairs-tail SettledBefore settlement settlements ordered))
  where
    some_same : (a b : Settlement) → Some a ≡ Some b → a ≡ b
    some_same a b same = cc

-- the outcome of an event, by its number
numbered_outcome : (origins : List Origin) (events : List Settled) (number : ℕ) (settlement : Settlement)
    → slice_get (history_of origins events) number ≡ Some settlement → (d : Settled)
    → outcome_of (slice_index_or events number d).look ≡ settlement.event.outcome
numbered_outcome origins events number settlement there d =
    let within : number < length (history_of origins events) = slice_get_within (history_of origins events) number settlement there in
    let below : number < length events = omega (arith, within, length-history_of origins events) in
    let is : IsEvent (history_of origins events) number settlement.event.path settlement.event.outcome =
    record { within = within; there = (settlement.teller, there) } in
    let read : Settled = slice_index_or events number d in
    (stored_outcome origins events number settlement.event.path settlement.event.outcome is read (get_or_default events number d read below)).1

-- the nodes of these numbers
pub nodes_numbered : (network : Network) (plan : Option Solution) (origins : List Origin) (events : List Settled) (numbers : List ℕ)
    (settlements : List Settlement) → AreNumbers (history_of origins events) numbers settlements
    → left_nodes network plan events numbers ≡ map (λ (s : Settlement). node_of network (planned plan) s.event.outcome) settlements
unfolding numbered_node
nodes_numbered network plan origins events [] [] numbered = refl
nodes_numbered network plan origins events [] (settlement ∷ settlements) numbered =
    let clash : [] ≡ map (λ (s : Settlement). Some s) (settlement ∷ settlements) = numbered in cc
nodes_numbered network plan origins events (number ∷ numbers) [] numbered =
    let clash : map (slice_get (history_of origins events)) (number ∷ numbers) ≡ [] = numbered in cc
nodes_numbered network plan origins events (number ∷ numbers) (settlement ∷ settlements) numbered =
    let parts = numbers_head (history_of origins events) number numbers settlement settlements numbered in
    ap₂ (λ n ns. node_of network (planned plan) n ∷ ns)
    (numbered_outcome origins events number settlement parts.0
    (record { teller = 0; place = 0; look = FoundSplit (record { left = 0; right = 0; link = 0; lag = pos 0 }) }))
    (nodes_numbered network plan origins events numbers settlements parts.1)

module _ {network : Network} (origins : List Origin) (events : List Settled) (plan : Option Solution) (is : IsPlanOf network (history_of origins events) plan)
    {numbers : List ℕ} (order : IsOrder network (history_of origins events) numbers) where
  -- an order can be spelled
  pub order_spells : IsLegal network (history_of origins events) → IsSpelling network plan events numbers
  order_spells legal =
      let history = history_of origins events in
      record {
        planned = is.0;
        within = each_numbered (λ n. n < length events) history numbers order.ordered order.numbered
            (λ n s there found. omega (arith, slice_get_within history n s there, length-history_of origins events));
        different = numbers_differ history numbers order.ordered order.numbered order.in_order;
        ties = each_numbered (λ n. (d : Settled) → HasTie network plan (outcome_of (slice_index_or events n d).look)) history numbers
            order.ordered order.numbered
            (λ n s there found d.
            subst (HasTie network plan) (sym (numbered_outcome origins events n s there d))
            (settled_tie legal plan is.1 s (event_among history s n (slice_get_within history n s there) there)));
      }

  -- and its nodes are those of the history
  order_are : left_nodes network plan events numbers
      ≡ map (λ (s : Settlement). node_of network (kept_of network (history_of origins events)) s.event.outcome) order.ordered
  order_are =
      nodes_numbered network plan origins events numbers order.ordered order.numbered
      ∙ ap (λ p. map (λ (s : Settlement). node_of network p s.event.outcome) order.ordered) (sym is.1)

  pub order_nodes : AreNodesOf network (history_of origins events) (left_nodes network plan events numbers)
  order_nodes = record { ordered = order.ordered; same = order.same; in_order = order.in_order; are = order_are }

  pub order_accepted : SpellsAccepted network (kept_of network (history_of origins events)) (left_nodes network plan events numbers)
  order_accepted = record { tree = order.accepted.0; spelled = order_are ∙ order.accepted.2; accepted = order.accepted.1 }

pub order_counted : (network : Network) (history : List Settlement) (plan : Option Solution) (events : List Settled) (numbers : List ℕ)
    → IsOrder network history numbers → length (left_nodes network plan events numbers) ≡ length history
order_counted network history plan events numbers order =
    length-map numbers (numbered_node network plan events) ∙ numbers_counted history numbers order.ordered order.numbered
    ∙ length_permutation history order.ordered order.same

-- ---- one node more

-- the nodes of other events are as they were
pub nodes_untouched : (network : Network) (plan : Option Solution) (before after : List Settled) (numbers : List ℕ)
    → All (λ other. (d : Settled) → slice_index_or after other d ≡ slice_index_or before other d) numbers
    → left_nodes network plan after numbers ≡ left_nodes network plan before numbers
unfolding numbered_node
nodes_untouched network plan before after [] same = refl
nodes_untouched network plan before after (number ∷ numbers) same =
    ap₂ (λ (e : Settled) ns. node_of network (planned plan) (outcome_of e.look) ∷ ns)
    (All-head (λ other. (d : Settled) → slice_index_or after other d ≡ slice_index_or before other d) number numbers same
    (record { teller = 0; place = 0; look = FoundSplit (record { left = 0; right = 0; link = 0; lag = pos 0 }) }))
    (nodes_untouched network plan before after numbers
    (All-tail (λ other. (d : Settled) → slice_index_or after other d ≡ slice_index_or before other d) number numbers same))

-- the first event is taken out
pub record Taken (before after : List Settled) (number : ℕ) : Type 0 where
  pub counted : length after ≡ length before
  pub others : (other : ℕ) → other ≢ number → (d : Settled) → slice_index_or after other d ≡ slice_index_or before other d

module _ (network : Network) (plan : Option Solution) (before after : List Settled) (number : ℕ) (numbers : List ℕ)
    (known : IsSpelling network plan before (number ∷ numbers)) (taken : Taken before after number) where
  others_same : All (λ other. (d : Settled) → slice_index_or after other d ≡ slice_index_or before other d) numbers
  others_same =
      All-weaker (λ other. number ≢ other) (λ other. (d : Settled) → slice_index_or after other d ≡ slice_index_or before other d)
      (λ other differ. taken.others other (λ same. differ (sym same)))
      numbers (AllPairs-head ◌≢◌ number numbers known.different)

  pub spelling_goes_on : IsSpelling network plan after numbers
  spelling_goes_on =
      let Tie : List Settled → ℕ → Type 0 = λ events n. (d : Settled) → HasTie network plan (outcome_of (slice_index_or events n d).look) in
      record {
        planned = known.planned;
        within = All-weaker (λ n. n < length before) (λ n. n < length after) (λ n below. omega (arith, below, taken.counted)) numbers
            (All-tail (λ n. n < length before) number numbers known.within);
        different = AllPairs-tail ◌≢◌ number numbers known.different;
        ties = ties_stay numbers others_same (All-tail (Tie before) number numbers known.ties);
      }
    where
      ties_stay : (ns : List ℕ) → All (λ other. (d : Settled) → slice_index_or after other d ≡ slice_index_or before other d) ns
          → All (λ n. (d : Settled) → HasTie network plan (outcome_of (slice_index_or before n d).look)) ns
          → All (λ n. (d : Settled) → HasTie network plan (outcome_of (slice_index_or after n d).look)) ns
      ties_stay ns same ties k e below d = subst (λ (s : Settled). HasTie network plan (outcome_of s.look)) (sym (same k e below d)) (ties k e below d)

  pub nodes_go_on : (node : Node) → ((d : Settled) → node ≡ node_of network (planned plan) (outcome_of (slice_index_or before number d).look))
      → left_nodes network plan before (number ∷ numbers) ≡ node ∷ left_nodes network plan after numbers
  unfolding numbered_node
  nodes_go_on node is =
      ap₂ (λ n ns. n ∷ ns) (sym (is (record { teller = 0; place = 0; look = FoundSplit (record { left = 0; right = 0; link = 0; lag = pos 0 }) })))
      (sym (nodes_untouched network plan before after numbers others_same))
