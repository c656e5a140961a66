-- What one more settlement makes of the places.
use Rattle.std.proofs.Common.{◌≡◌, ◌≢◌, ℕ, zero, suc, ◌+◌, ◌-◌, ◌≤◌, ◌<◌, List, [], ◌∷◌, ◌++◌, map, length, get_or, set, All, AllPairs, Contains, false, ◌||◌, refl, sym, ap, ◌∙◌, subst, arith, append_assoc, inl, inr, Some}
use Rattle.std.specs.List.{slice_index_or}
use Rattle.std.proofs.lemmas.Bool.{cases_lt, cases_eq}
use Rattle.std.proofs.lemmas.List.{append-nil, length-append, length-set, length-map, map-append, get_or_append_left, get_or-append-add, get_or-append_right, get_or-set_same, get_or-set_other}
use Rattle.std.proofs.lemmas.List.Elements.{Contains-get_or, All-append, All-cons, All-nil, All-head, All-tail, All-weaker}
use Rattle.std.proofs.lemmas.Option.{slice_get-get_or, get_or_from_slice_get}
use Rattle.tsn_model.specs.declared.Triple.{Triple}
use Rattle.tsn_model.specs.declared.Side.TheVariants.{Left, Right}
use Rattle.tsn_model.specs.declared.Decision.{Decision}
use Rattle.tsn_model.specs.Network.{Network}
use Rattle.tsn_model.specs.Certificate.{decided}
use Rattle.tsn_model.specs.Search.{Outcome, split, solved, pruned, tied, refuted, Event, Settlement, path_eq, children_of, made_paths, open_paths, is_settled, ends_of, IsRight, IsAllowed, IsLegal}
use Rattle.tsn_model.proofs.Paths.{path_eq-false}
use Rattle.tsn_model.proofs.Histories.{legal_nil, legal_snoc, made_paths-snoc, is_settled-snoc, open_from_made, made_apart, child_not_settled, child_ne_parent}
use Rattle.tsn_book.specs.declared.statuses.Origin.{Origin}
use Rattle.tsn_book.specs.declared.statuses.Origin.TheVariants.{Root, Child}
use Rattle.tsn_book.specs.declared.statuses.Status.{Status}
use Rattle.tsn_book.specs.declared.statuses.Status.TheVariants.{Open, Split, Leaf}
use Rattle.tsn_book.specs.declared.log.Settled.{Settled}
use Rattle.tsn_conflict.specs.declared.outcome.Look.{Look}
use Rattle.tsn_conflict.specs.declared.outcome.Look.TheVariants.{Split as FoundSplit}
use Rattle.tsn_conflict.specs.Outcome.{outcome_of}
use Rattle.tsn_book.specs.Arena.{path_at, path_from, with_path, paths_of, settlement_of, history_of, IsEvent, IsPlaced, IsTree, IsOpenPlace, IsLeafOutcome, IsAfterParent}
use Rattle.tsn_book.proofs.Places.{paths_of-snoc, length-paths_of, path_at-left, path_at-right}

-- ---- settlements stay

-- an event keeps its number
pub event_stays : (history : List Settlement) (settlement : Settlement) (event : ℕ) (path : List Decision) (outcome : Outcome)
    → IsEvent history event path outcome → IsEvent (history ++ settlement ∷ []) event path outcome
event_stays history settlement event path outcome is =
    let it : Settlement = record { teller = is.there.0; event = record { path = path; outcome = outcome } } in
    let there = get_or_from_slice_get history event it settlement is.there.1 in
    let longer : event < length (history ++ settlement ∷ []) = omega (arith, is.within, length-append history (settlement ∷ [])) in
    record {
      within = longer;
      there = (
        is.there.0,
        slice_get-get_or (history ++ settlement ∷ []) event settlement longer
            ∙ ap (λ s. Some s) (get_or_append_left history (settlement ∷ []) settlement event is.within ∙ there),
      );
    }

-- the new one has the next number
pub event_new : (history : List Settlement) (teller : ℕ) (path : List Decision) (outcome : Outcome) (event : ℕ) → event ≡ length history
    → IsEvent (history ++ record { teller = teller; event = record { path = path; outcome = outcome } } ∷ []) event path outcome
event_new history teller path outcome event at =
    let it : Settlement = record { teller = teller; event = record { path = path; outcome = outcome } } in
    let longer : event < length (history ++ it ∷ []) = omega (arith, at, length-append history (it ∷ [])) in
    let right : length history ≤ event = omega (arith, at) in
    let first : event - length history ≡ 0 = omega (arith, at) in
    record {
      within = longer;
      there = (
        teller,
        slice_get-get_or (history ++ it ∷ []) event it longer
            ∙ ap (λ s. Some s) (get_or-append_right history (it ∷ []) (length history) event it refl right ∙ ap (λ k. get_or (it ∷ []) k it) first),
      );
    }

-- ---- one more settlement

-- the places that are known before a settlement
pub record Known (network : Network) (paths : List (List Decision)) (history : List Settlement) (statuses : List Status) : Type 0 where
  pub legal : IsLegal network history
  pub made : paths ≡ made_paths history
  pub counted : length statuses ≡ length paths
  pub placed : (place : ℕ) → place < length paths → IsPlaced paths history place (slice_index_or statuses place Open)

-- an open place's path is open
pub open_path : (network : Network) (paths : List (List Decision)) (history : List Settlement) (statuses : List Status) → Known network paths history statuses
    → (place : ℕ) → IsOpenPlace statuses place
    → Contains (open_paths history) (path_at paths place) × (is_settled history (path_at paths place) ≡ false)
unfolding path_at
open_path network paths history statuses known place at =
    let below : place < length paths = omega (arith, at.within, known.counted) in
    let unsettled : is_settled history (get_or paths place []) ≡ false = subst (IsPlaced paths history place) at.is_open (known.placed place below) in (
      open_from_made history (get_or paths place [])
          (subst (λ made. Contains made (get_or paths place [])) known.made (Contains-get_or paths place [] below)) unsettled,
      unsettled,
    )

-- a path stays unsettled under a settlement of another one
pub stays_unsettled : (history : List Settlement) (settlement : Settlement) (path : List Decision) → is_settled history path ≡ false
    → settlement.event.path ≢ path → is_settled (history ++ settlement ∷ []) path ≡ false
stays_unsettled history settlement path unsettled other =
    is_settled-snoc history settlement path ∙ ap (λ b. b || path_eq settlement.event.path path) unsettled ∙ path_eq-false settlement.event.path path other

-- different places have different paths
pub places_apart : (network : Network) (paths : List (List Decision)) (history : List Settlement) → IsLegal network history → paths ≡ made_paths history
    → (a b : ℕ) → a < length paths → b < length paths → a ≢ b → path_at paths a ≢ path_at paths b
unfolding path_at
places_apart network paths history legal made a b first second different same =
    let apart : AllPairs ◌≢◌ paths = subst (λ ps. AllPairs ◌≢◌ ps) (sym made) (made_apart network history legal) in
    elim (cases_lt a b) [
      | inl less ↦ apart a b [] less second same
      | inr more ↦ let greater : b < a = omega arith in apart b a [] greater first (sym same)
    ]

-- what another place's status says stays
pub placed_stays : (paths extra : List (List Decision)) (history : List Settlement) (settlement : Settlement) (place : ℕ) → place < length paths
    → settlement.event.path ≢ path_at paths place → (status : Status)
    → IsPlaced paths history place status → IsPlaced (paths ++ extra) (history ++ settlement ∷ []) place status
placed_stays paths extra history settlement place below other Open placed =
    subst (λ path. is_settled (history ++ settlement ∷ []) path ≡ false) (sym (path_at-left paths extra place below))
    (stays_unsettled history settlement (path_at paths place) placed other)
placed_stays paths extra history settlement place below other (Split triple children event) placed =
    let same = sym (path_at-left paths extra place below) in
    let left : children < length paths = omega (arith, placed.1) in
    let wider : children + 1 < length (paths ++ extra) = omega (arith, placed.1, length-append paths extra) in (
      subst (λ path. IsEvent (history ++ settlement ∷ []) event path (split triple)) same
          (event_stays history settlement event (path_at paths place) (split triple) placed.0),
      wider,
      path_at-left paths extra children left ∙ placed.2 ∙ ap (λ path. decided path triple Left) same,
      path_at-left paths extra (children + 1) placed.1 ∙ placed.3 ∙ ap (λ path. decided path triple Right) same,
      placed.4,
    )
placed_stays paths extra history settlement place below other (Leaf event) placed =
    let same = sym (path_at-left paths extra place below) in (
      placed.0,
      subst (λ path. IsEvent (history ++ settlement ∷ []) event path placed.0) same
          (event_stays history settlement event (path_at paths place) placed.0 placed.1),
      subst (λ path. ends_of path placed.0 ≡ path ∷ []) same placed.2,
    )

-- the places after a settlement, where the settled place is known, and the new ones are open
pub grown : (network : Network) (paths : List (List Decision)) (history : List Settlement) (statuses : List Status) → Known network paths history statuses
    → (place teller : ℕ) (outcome : Outcome) → IsOpenPlace statuses place → IsRight network history (path_at paths place) outcome
    → (status : Status) (opens : List Status) → ((k : ℕ) → get_or opens k Open ≡ Open) → length opens ≡ length (children_of (path_at paths place) outcome)
    → let settlement : Settlement = record { teller = teller; event = record { path = path_at paths place; outcome = outcome } } in
    let extra = children_of (path_at paths place) outcome in
    IsPlaced (paths ++ extra) (history ++ settlement ∷ []) place status
    → Known network (paths ++ extra) (history ++ settlement ∷ []) (set statuses place status ++ opens)
unfolding path_at
grown network paths history statuses known place teller outcome at right status opens all_open as_many settled =
    let path = path_at paths place in
    let event : Event = record { path = path; outcome = outcome } in
    let settlement : Settlement = record { teller = teller; event = event } in
    let extra = children_of path outcome in
    let open_now = open_path network paths history statuses known place at in
    let allowed : IsAllowed network history event = record { is_open = open_now.0; is_right = right } in
    let below : place < length paths = omega (arith, at.within, known.counted) in
    let kept : length (set statuses place status) ≡ length paths = length-set statuses place status ∙ known.counted in
    record {
      legal = legal_snoc network history settlement known.legal allowed;
      made = ap (λ ps. ps ++ extra) known.made ∙ sym (made_paths-snoc history settlement);
      counted = omega (arith, kept, as_many, length-append (set statuses place status) opens, length-append paths extra);
      placed = λ p within.
          elim (cases_lt p (length paths)) [
            | inl old ↦
                let old_status : p < length (set statuses place status) = omega (arith, old, kept) in
                let reads = get_or_append_left (set statuses place status) opens Open p old_status in
                elim (cases_eq place p) [
                  | inl same ↦
                      let is : get_or (set statuses place status) place Open ≡ status = get_or-set_same statuses place status Open at.within in
                      subst (λ q. IsPlaced (paths ++ extra) (history ++ settlement ∷ []) q (get_or (set statuses place status ++ opens) q Open)) same
                      (subst (IsPlaced (paths ++ extra) (history ++ settlement ∷ []) place)
                      (sym (ap (λ q. get_or (set statuses place status ++ opens) q Open) same ∙ reads
                      ∙ ap (λ q. get_or (set statuses place status) q Open) (sym same) ∙ is)) settled)
                  | inr turned ↦
                      let other : p ≢ place = λ same. turned (sym same) in
                      subst (IsPlaced (paths ++ extra) (history ++ settlement ∷ []) p) (sym (reads ∙ get_or-set_other statuses place p status Open other))
                      (placed_stays paths extra history settlement p old (places_apart network paths history known.legal known.made place p below old turned)
                      (get_or statuses p Open) (known.placed p old))
                ]
            | inr new ↦
                let k : ℕ = p - length paths in
                let at_k : length paths + k ≡ p = omega arith in
                let child_below : k < length extra = omega (arith, within, length-append paths extra) in
                let past : length paths ≤ p = new in
                let opened : get_or (set statuses place status ++ opens) p Open ≡ Open =
                get_or-append_right (set statuses place status) opens (length paths) p Open kept past ∙ all_open k in
                let child_path : path_at (paths ++ extra) p ≡ path_at extra k = ap (path_at (paths ++ extra)) (sym at_k) ∙ path_at-right paths extra k in
                let child : Contains extra (path_at extra k) = child_among extra k child_below in
                subst (IsPlaced (paths ++ extra) (history ++ settlement ∷ []) p) (sym opened)
                (subst (λ q. is_settled (history ++ settlement ∷ []) q ≡ false) (sym child_path)
                (stays_unsettled history settlement (path_at extra k) (child_not_settled network history event known.legal open_now.0 (path_at extra k) child)
                (child_ne_parent path outcome (path_at extra k) child)))
          ];
    }
  where
    child_among : (children : List (List Decision)) (k : ℕ) → k < length children → Contains children (path_at children k)
    child_among children k within = Contains-get_or children k [] within

-- ---- trees

module _ {network : Network} {origins : List Origin} {statuses : List Status} {events : List Settled} (tree : IsTree network origins statuses events) where
  pub tree_known : Known network (paths_of origins) (history_of origins events) statuses
  tree_known =
      record {
        legal = tree.legal;
        made = tree.made;
        counted = tree.counted ∙ sym (length-paths_of origins);
        placed = λ place below. tree.placed place (omega (arith, below, length-paths_of origins));
      }

-- the settlements so far are read the same from more paths
pub settlements_stay : (paths extra : List (List Decision)) (events : List Settled) → All (λ (settled : Settled). settled.place < length paths) events
    → map (settlement_of (paths ++ extra)) events ≡ map (settlement_of paths) events
unfolding settlement_of
settlements_stay paths extra [] within = refl
settlements_stay paths extra (settled ∷ events) within =
    let here : settled.place < length paths = All-head (λ (s : Settled). s.place < length paths) settled events within in
    let same = path_at-left paths extra settled.place here in
    ap (λ path. record { teller = settled.teller; event = record { path = path; outcome = outcome_of settled.look } }
    ∷ map (settlement_of (paths ++ extra)) events) same
    ∙ ap (λ rest. record { teller = settled.teller; event = record { path = path_at paths settled.place; outcome = outcome_of settled.look } } ∷ rest)
    (settlements_stay paths extra events (All-tail (λ (s : Settled). s.place < length paths) settled events within))

pub history_grows : (origins more : List Origin) (extra : List (List Decision)) (events : List Settled) (settled : Settled)
    → All (λ (s : Settled). s.place < length origins) (events ++ settled ∷ [])
    → paths_of more ≡ paths_of origins ++ extra → history_of more (events ++ settled ∷ [])
    ≡ history_of origins events ++ settlement_of (paths_of origins) settled ∷ []
unfolding history_of
history_grows origins more extra events settled within longer =
    let inside : All (λ (s : Settled). s.place < length (paths_of origins)) (events ++ settled ∷ []) =
    subst (λ n. All (λ (s : Settled). s.place < n) (events ++ settled ∷ [])) (sym (length-paths_of origins)) within in
    ap (λ paths. map (settlement_of paths) (events ++ settled ∷ [])) longer
    ∙ settlements_stay (paths_of origins) extra (events ++ settled ∷ []) inside
    ∙ map-append (settlement_of (paths_of origins)) events (settled ∷ [])

-- the paths of a split's two places
pub split_paths : (origins : List Origin) (place : ℕ) (triple : Triple) → place < length origins
    → paths_of ((origins ++ Child place (record { triple = triple; side = Left }) ∷ []) ++ Child place (record { triple = triple; side = Right }) ∷ [])
    ≡ paths_of origins ++ children_of (path_at (paths_of origins) place) (split triple)
unfolding path_from children_of decided
split_paths origins place triple below =
    let paths = paths_of origins in
    let left : Decision = record { triple = triple; side = Left } in
    let right : Decision = record { triple = triple; side = Right } in
    let inside : place < length paths = omega (arith, below, length-paths_of origins) in
    let one = paths_of-snoc origins (Child place left) in
    paths_of-snoc (origins ++ Child place left ∷ []) (Child place right)
    ∙ ap (λ ps. ps ++ (path_at ps place ++ right ∷ []) ∷ []) one
    ∙ ap (λ path. (paths ++ (path_at paths place ++ left ∷ []) ∷ []) ++ (path ++ right ∷ []) ∷ [])
    (path_at-left paths ((path_at paths place ++ left ∷ []) ∷ []) place inside)
    ∙ append_assoc paths ((path_at paths place ++ left ∷ []) ∷ []) ((path_at paths place ++ right ∷ []) ∷ [])

-- a split's two places stand after it
one_parent_more : (origins : List Origin) (parent : ℕ) (decision : Decision) → ((k : ℕ) → k < length origins → IsAfterParent k (slice_index_or origins k Root))
    → parent < length origins
    → (k : ℕ) → k < length (origins ++ Child parent decision ∷ []) → IsAfterParent k (slice_index_or (origins ++ Child parent decision ∷ []) k Root)
one_parent_more origins parent decision parents below k within =
    elim (cases_lt k (length origins)) [
      | inl earlier ↦ subst (IsAfterParent k) (sym (get_or_append_left origins (Child parent decision ∷ []) Root k earlier)) (parents k earlier)
      | inr past ↦
          let last : k ≡ length origins + 0 = omega (arith, within, past, length-append origins (Child parent decision ∷ [])) in
          let is : get_or (origins ++ Child parent decision ∷ []) k Root ≡ Child parent decision =
          ap (λ n. get_or (origins ++ Child parent decision ∷ []) n Root) last ∙ get_or-append-add origins (Child parent decision ∷ []) 0 Root in
          let after : parent < k = omega (arith, below, past) in
          subst (IsAfterParent k) (sym is) after
    ]

split_parents : (origins : List Origin) → ((k : ℕ) → k < length origins → IsAfterParent k (slice_index_or origins k Root)) → (place : ℕ) (triple : Triple)
    → place < length origins
    → let more = (origins ++ Child place (record { triple = triple; side = Left }) ∷ []) ++ Child place (record { triple = triple; side = Right }) ∷ [] in
    (k : ℕ) → k < length more → IsAfterParent k (slice_index_or more k Root)
split_parents origins parents place triple below =
    let left : Decision = record { triple = triple; side = Left } in
    let right : Decision = record { triple = triple; side = Right } in
    let longer : place < length (origins ++ Child place left ∷ []) = omega (arith, below, length-append origins (Child place left ∷ [])) in
    one_parent_more (origins ++ Child place left ∷ []) place right (one_parent_more origins place left parents below) longer

module _ {network : Network} {origins : List Origin} {statuses : List Status} {events : List Settled} (tree : IsTree network origins statuses events) where
  -- the tree after a settlement at an open place, with its history
  pub tree_grows : (place teller : ℕ) (found : Look) → IsOpenPlace statuses place
      → IsRight network (history_of origins events) (path_at (paths_of origins) place) (outcome_of found)
      → (more : List Origin) → paths_of more ≡ paths_of origins ++ children_of (path_at (paths_of origins) place) (outcome_of found)
      → ((k : ℕ) → k < length more → IsAfterParent k (slice_index_or more k Root))
      → (status : Status) (opens : List Status) → ((k : ℕ) → get_or opens k Open ≡ Open)
      → length opens ≡ length (children_of (path_at (paths_of origins) place) (outcome_of found))
      → let settlement : Settlement = record { teller = teller; event = record { path = path_at (paths_of origins) place; outcome = outcome_of found } } in
      IsPlaced (paths_of origins ++ children_of (path_at (paths_of origins) place) (outcome_of found))
      (history_of origins events ++ settlement ∷ []) place status
      → IsTree network more (set statuses place status ++ opens) (events ++ record { teller = teller; place = place; look = found } ∷ [])
      × (history_of more (events ++ record { teller = teller; place = place; look = found } ∷ []) ≡ history_of origins events ++ settlement ∷ [])
  unfolding settlement_of
  tree_grows place teller found at right more longer parents status opens all_open as_many settled =
      let paths = paths_of origins in
      let history = history_of origins events in
      let path = path_at paths place in
      let settlement : Settlement = record { teller = teller; event = record { path = path; outcome = outcome_of found } } in
      let extra = children_of path (outcome_of found) in
      let one : Settled = record { teller = teller; place = place; look = found } in
      let below : place < length origins = omega (arith, at.within, tree.counted) in
      let inside : All (λ (s : Settled). s.place < length origins) (events ++ one ∷ []) =
      All-append (λ (s : Settled). s.place < length origins) events (one ∷ []) tree.within
      (All-cons (λ (s : Settled). s.place < length origins) one [] below (All-nil (λ (s : Settled). s.place < length origins))) in
      let same : history_of more (events ++ one ∷ []) ≡ history ++ settlement ∷ [] = history_grows origins more extra events one inside longer in
      let after = grown network paths history statuses (tree_known tree) place teller (outcome_of found) at right status opens all_open as_many settled in
      let counts = length-paths_of more in
      let sum : length (paths_of more) ≡ length paths + length extra = ap length longer ∙ length-append paths extra in
      let wider : length origins ≤ length more = omega (arith, counts, sum, length-paths_of origins) in (
        record {
          legal = subst (IsLegal network) (sym same) after.legal;
          made = longer ∙ after.made ∙ ap made_paths (sym same);
          counted = after.counted ∙ ap length (sym longer) ∙ counts;
          placed = λ p within.
              let fits : p < length (paths ++ extra) = omega (arith, within, counts, ap length longer) in
              subst (λ ps. IsPlaced ps (history_of more (events ++ one ∷ [])) p (slice_index_or (set statuses place status ++ opens) p Open)) (sym longer)
              (subst (λ h. IsPlaced (paths ++ extra) h p (slice_index_or (set statuses place status ++ opens) p Open)) (sym same) (after.placed p fits));
          within = All-weaker (λ (s : Settled). s.place < length origins) (λ (s : Settled). s.place < length more) (λ s low. omega (arith, low, wider))
              (events ++ one ∷ []) inside;
          parents = parents;
        },
        same,
      )

-- two more open places
pub two_open : (k : ℕ) → get_or (Open ∷ Open ∷ []) k Open ≡ Open
two_open zero = refl
two_open (suc zero) = refl
two_open (suc (suc k)) = refl

pub first_of : (path : List Decision) (triple : Triple) → path_at (decided path triple Left ∷ decided path triple Right ∷ []) 0 ≡ decided path triple Left
unfolding path_at
first_of path triple = refl

pub second_of : (path : List Decision) (triple : Triple) → path_at (decided path triple Left ∷ decided path triple Right ∷ []) 1 ≡ decided path triple Right
unfolding path_at
second_of path triple = refl

module _ {network : Network} {origins : List Origin} {statuses : List Status} {events : List Settled} (tree : IsTree network origins statuses events) where
  -- the tree after a split
  pub split_grows : (place teller children number : ℕ) (triple : Triple) → children ≡ length origins → number ≡ length events → IsOpenPlace statuses place
      → IsRight network (history_of origins events) (path_at (paths_of origins) place) (split triple)
      → let more = (origins ++ Child place (record { triple = triple; side = Left }) ∷ []) ++ Child place (record { triple = triple; side = Right }) ∷ [] in
      let one : Settled = record { teller = teller; place = place; look = FoundSplit triple } in
      let status = Split triple children number in
      IsTree network more ((set statuses place status ++ Open ∷ []) ++ Open ∷ []) (events ++ one ∷ [])
      × (history_of more (events ++ one ∷ []) ≡ history_of origins events ++ record {
        teller = teller;
        event = record { path = path_at (paths_of origins) place; outcome = split triple };
      } ∷ [])
  unfolding children_of history_of
  split_grows place teller children number triple first_child next at right =
      let paths = paths_of origins in
      let history = history_of origins events in
      let path = path_at paths place in
      let settlement : Settlement = record { teller = teller; event = record { path = path; outcome = split triple } } in
      let extra = decided path triple Left ∷ decided path triple Right ∷ [] in
      let below : place < length origins = omega (arith, at.within, tree.counted) in
      let inside : place < length paths = omega (arith, below, length-paths_of origins) in
      let more = (origins ++ Child place (record { triple = triple; side = Left }) ∷ []) ++ Child place (record { triple = triple; side = Right }) ∷ [] in
      let one : Settled = record { teller = teller; place = place; look = FoundSplit triple } in
      let same_path = sym (path_at-left paths extra place inside) in
      let status = Split triple children number in
      let first : length paths + 0 ≡ children = omega (arith, first_child, length-paths_of origins) in
      let second : length paths + 1 ≡ children + 1 = omega (arith, first_child, length-paths_of origins) in
      let wide : children + 1 < length (paths ++ extra) = omega (arith, first_child, length-append paths extra, length-paths_of origins) in
      let settled : IsPlaced (paths ++ extra) (history ++ settlement ∷ []) place status = (
        subst (λ p. IsEvent (history ++ settlement ∷ []) number p (split triple)) same_path
            (event_new history teller path (split triple) number (next ∙ sym (length-map events (settlement_of paths)))),
        wide,
        ap (path_at (paths ++ extra)) (sym first) ∙ path_at-right paths extra 0 ∙ first_of path triple ∙ ap (λ p. decided p triple Left) same_path,
        ap (path_at (paths ++ extra)) (sym second) ∙ path_at-right paths extra 1 ∙ second_of path triple ∙ ap (λ p. decided p triple Right) same_path,
        omega (arith, below, first_child),
      ) in
      let grown_tree = tree_grows tree place teller (FoundSplit triple) at right more (split_paths origins place triple below)
      (split_parents origins tree.parents place triple below) status (Open ∷ Open ∷ []) two_open refl settled in (
        subst (λ ss. IsTree network more ss (events ++ one ∷ [])) (sym (append_assoc (set statuses place status) (Open ∷ []) (Open ∷ []))) grown_tree.0,
        grown_tree.1,
      )

-- a leaf has no children, and its path ends there
pub leaf_parts : (path : List Decision) (outcome : Outcome) → IsLeafOutcome outcome → (children_of path outcome ≡ []) × (ends_of path outcome ≡ path ∷ [])
unfolding children_of ends_of
leaf_parts path (split triple) leaf = absurd leaf
leaf_parts path (solved offsets bound proof chains) leaf = (refl, refl)
leaf_parts path (pruned bound proof) leaf = (refl, refl)
leaf_parts path (tied bound proof chains) leaf = (refl, refl)
leaf_parts path (refuted proof) leaf = (refl, refl)

module _ {network : Network} {origins : List Origin} {statuses : List Status} {events : List Settled} (tree : IsTree network origins statuses events) where
  -- the tree after a leaf
  pub leaf_grows : (place teller number : ℕ) (found : Look) → number ≡ length events → IsOpenPlace statuses place
      → IsRight network (history_of origins events) (path_at (paths_of origins) place) (outcome_of found)
      → IsLeafOutcome (outcome_of found)
      → let one : Settled = record { teller = teller; place = place; look = found } in
      IsTree network origins (set statuses place (Leaf number)) (events ++ one ∷ [])
      × (history_of origins (events ++ one ∷ [])
      ≡ history_of origins events ++ record { teller = teller; event = record { path = path_at (paths_of origins) place; outcome = outcome_of found } } ∷ [])
  unfolding history_of
  leaf_grows place teller number found next at right leaf =
      let paths = paths_of origins in
      let history = history_of origins events in
      let path = path_at paths place in
      let outcome = outcome_of found in
      let settlement : Settlement = record { teller = teller; event = record { path = path; outcome = outcome } } in
      let extra = children_of path outcome in
      let one : Settled = record { teller = teller; place = place; look = found } in
      let parts = leaf_parts path outcome leaf in
      let longer : paths ≡ paths ++ extra = sym (ap (λ more. paths ++ more) parts.0 ∙ append-nil paths) in
      let same_path : path ≡ path_at (paths ++ extra) place = ap (λ ps. path_at ps place) longer in
      let settled : IsPlaced (paths ++ extra) (history ++ settlement ∷ []) place (Leaf number) = (
        outcome,
        subst (λ p. IsEvent (history ++ settlement ∷ []) number p outcome) same_path
            (event_new history teller path outcome number (next ∙ sym (length-map events (settlement_of paths)))),
        subst (λ p. ends_of p outcome ≡ p ∷ []) same_path parts.1,
      ) in
      let grown_tree = tree_grows tree place teller found at right origins longer tree.parents (Leaf number) [] (λ k. refl) (sym (ap length parts.0)) settled in
      (subst (λ ss. IsTree network origins ss (events ++ one ∷ [])) (append-nil (set statuses place (Leaf number))) grown_tree.0, grown_tree.1)

-- the tree of the root alone
pub root_tree : (network : Network) → IsTree network (Root ∷ []) (Open ∷ []) []
unfolding history_of paths_of with_path path_from made_paths is_settled
root_tree network =
    record {
      legal = legal_nil network;
      made = refl;
      counted = refl;
      placed = λ place below. root_placed place below;
      within = All-nil (λ (s : Settled). s.place < 1);
      parents = λ place below. root_parents place below;
    }
  where
    root_parents : (place : ℕ) → place < 1 → IsAfterParent place (slice_index_or (Root ∷ []) place Root)
    root_parents zero below = tt
    root_parents (suc place) below = absurd (omega (arith, below))

    root_placed : (place : ℕ) → place < 1 → IsPlaced (paths_of (Root ∷ [])) [] place (slice_index_or (Open ∷ []) place Open)
    root_placed zero below = refl
    root_placed (suc place) below = absurd (omega (arith, below))
