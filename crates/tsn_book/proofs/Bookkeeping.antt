-- What a book keeps beside its places, after one more settlement.
use Rattle.std.proofs.Common.{◌≡◌, ◌≢◌, ℕ, zero, suc, ◌+◌, ◌≤◌, ◌<◌, min, List, [], ◌∷◌, ◌++◌, length, get_or, set, fold, All, Contains, Bool, true, false, not, ◌||◌, ◌&&◌, refl, sym, ap, ◌∙◌, subst, arith, inl, inr, Option, Some, None}
use Rattle.std.specs.Prelude.{replicate, ◌==◌, nat_eq, nat_lt, MatchOption}
use Rattle.std.specs.List.{slice_index_or, flat_map}
use Rattle.std.proofs.lemmas.Bool.{cases_lt, cases_eq, cond-true, cond-false, lt-ltb, le-ltb, eq-eqb, ne_eqb}
use Rattle.std.proofs.lemmas.List.{length-append, length-set, length-map, get_or-set_same, get_or-set_other, get_or-replicate, length-replicate}
use Rattle.std.proofs.Math.ListN.{get_or-map}
use Rattle.std.proofs.lemmas.List.Sums.{fold-append, length-filter, count_by-le-length}
use Rattle.std.proofs.lemmas.List.Elements.{All-append, All-cons, All-nil, Contains-append_right}
use Rattle.std.proofs.lemmas.Option.{get_or_from_slice_get}
use Rattle.tsn_model.specs.declared.Tally.{Tally}
use Rattle.tsn_model.specs.declared.Decision.{Decision}
use Rattle.tsn_model.specs.Network.{Network, IsWellFormed}
use Rattle.tsn_model.specs.Arcs.{conflicts_of}
use Rattle.tsn_model.specs.Schedule.{IsValid, flowspan, target_of, earlier, first_of}
use Rattle.tsn_model.specs.SearchLaws.{IsBelowBounds}
use Rattle.tsn_model.proofs.Kept.{kept_valid, kept_target, solved-le-cycle}
use Rattle.tsn_model.proofs.Finished.{legal_beginning}
use Rattle.tsn_model.proofs.BestBounds.{best_is_below, solved_among, settlement_right}
use Rattle.tsn_model.proofs.Conflicts.{conflict_listed}
use Rattle.tsn_model.proofs.Counting.{length-legal, length-legal_open}
use Rattle.tsn_model.specs.Certificate.{Leaf}
use Rattle.tsn_model.specs.Search.{Outcome, split, solved, pruned, tied, refuted, Settlement, children_of, made_paths, open_paths, is_settled, solved_bound, pruned_bound, solved_bounds, pruned_bounds, settled_by, least_or_none, best_bound, solutions, kept_of, tally_of, IsRight, IsAllowed, IsLegal, tally_as}
use Rattle.tsn_model.proofs.Lists.{Contains-head}
use Rattle.tsn_model.proofs.SearchLists.{flat_map-snoc, length-Without}
use Rattle.tsn_model.proofs.Histories.{legal_snoc, open_paths-snoc, open_but, open_but-Without}
use Rattle.tsn_model.proofs.Following.{settled_by-this, kept_lower_after, kept_even_after, kept_same_after}
use Rattle.tsn_model.proofs.Gathering.{tally-another}
use Rattle.tsn_book.specs.declared.statuses.Origin.{Origin}
use Rattle.tsn_book.specs.declared.statuses.Status.{Status}
use Rattle.tsn_book.specs.declared.statuses.Status.TheVariants.{Open}
use Rattle.tsn_book.specs.declared.log.Settled.{Settled}
use Rattle.tsn_book.specs.declared.ledger.Summary.{Summary}
use Rattle.tsn_conflict.specs.Outcome.{outcome_of}
use Rattle.tsn_book.specs.Arena.{paths_of, settlement_of, history_of, IsEvent, IsTree, AreClosed, ClosedAt}
use Rattle.tsn_book.specs.Book.{child_count, is_better, before_kept, kept_after, tally_after, IsKept, IsSummary, IsBook, IsLawful}
use Rattle.tsn_book.proofs.Growing.{event_stays, event_new}
use Rattle.tsn_book.proofs.Places.{length-paths_of, event_among}
use Rattle.tsn_book.proofs.Asking.{length-history_of}

-- ---- an empty book

pub empty_summary : (network : Network) (cycle tellers : ℕ) → cycle ≡ network.cycle
    → IsSummary network [] 1 (cycle + 1) None (replicate tellers (tally_as 0 (cycle + 1) (cycle + 1)))
unfolding open_paths made_paths is_settled best_bound least_or_none solved_bounds kept_of first_of solutions tally_of settled_by pruned_bounds
empty_summary network cycle tellers same =
    record {
      counted = refl;
      lowest = ap (λ n. n + 1) same;
      kept = refl;
      tallied = λ k below.
          let first : Tally = tally_as 0 (cycle + 1) (cycle + 1) in
          let few : k < tellers = omega (arith, below, length-replicate tellers first) in
          get_or-replicate tellers k (tally_as 0 (cycle + 1) (cycle + 1)) (tally_as 0 0 0) few ∙ ap (λ n. tally_as 0 (n + 1) (n + 1)) same;
      tellers = All-nil (λ (s : Settlement). s.teller < length (replicate tellers (tally_as 0 (cycle + 1) (cycle + 1))));
    }

-- ---- the numbers after one more settlement

pub children_counted : (path : List Decision) (outcome : Outcome) → length (children_of path outcome) ≡ child_count outcome
unfolding children_of
children_counted path (split triple) = refl
children_counted path (solved offsets bound leaf chains) = refl
children_counted path (pruned bound leaf) = refl
children_counted path (tied bound leaf chains) = refl
children_counted path (refuted leaf) = refl

-- the open path is replaced by its children
pub open_counted : (network : Network) (history : List Settlement) (settlement : Settlement) → IsLegal network history
    → IsAllowed network history settlement.event
    → length (open_paths (history ++ settlement ∷ [])) + 1 ≡ length (open_paths history) + child_count settlement.event.outcome
open_counted network history settlement legal allowed =
    let path = settlement.event.path in
    let children = children_of path settlement.event.outcome in
    let now = ap length (open_paths-snoc network history settlement legal allowed) ∙ length-append (open_but history path) children in
    let one_less = length-Without path (open_paths history) (open_but history path) (open_but-Without network history path legal allowed.is_open) in
    omega (arith, now, one_less, children_counted path settlement.event.outcome)

-- the least of the numbers, with those of one more settlement
pub solved_after : (network : Network) (history : List Settlement) (settlement : Settlement)
    → least_or_none network (solved_bounds (history ++ settlement ∷ []))
    ≡ fold min (least_or_none network (solved_bounds history)) (solved_bound settlement.event.outcome)
unfolding least_or_none solved_bounds
solved_after network history settlement =
    ap (fold min (network.cycle + 1)) (flat_map-snoc (λ (s : Settlement). solved_bound s.event.outcome) history settlement)
    ∙ fold-append min (network.cycle + 1) (flat_map (λ (s : Settlement). solved_bound s.event.outcome) history) (solved_bound settlement.event.outcome)

pub pruned_after : (network : Network) (history : List Settlement) (settlement : Settlement)
    → least_or_none network (pruned_bounds (history ++ settlement ∷ []))
    ≡ fold min (least_or_none network (pruned_bounds history)) (pruned_bound settlement.event.outcome)
unfolding least_or_none pruned_bounds
pruned_after network history settlement =
    ap (fold min (network.cycle + 1)) (flat_map-snoc (λ (s : Settlement). pruned_bound s.event.outcome) history settlement)
    ∙ fold-append min (network.cycle + 1) (flat_map (λ (s : Settlement). pruned_bound s.event.outcome) history) (pruned_bound settlement.event.outcome)

pub best_after : (network : Network) (history : List Settlement) (settlement : Settlement)
    → best_bound network (history ++ settlement ∷ []) ≡ fold min (best_bound network history) (solved_bound settlement.event.outcome)
unfolding best_bound
best_after network history settlement = solved_after network history settlement

-- the settling teller's tally takes the event
pub tally_of_this : (network : Network) (history : List Settlement) (settlement : Settlement)
    → tally_of network settlement.teller (history ++ settlement ∷ []) ≡ tally_after (tally_of network settlement.teller history) settlement.event.outcome
unfolding tally_of
tally_of_this network history settlement =
    let k = settlement.teller in
    let mine = settled_by k history in
    let now = mine ++ settlement ∷ [] in
    ap (λ (h : List Settlement). tally_as (length h) (least_or_none network (pruned_bounds h)) (least_or_none network (solved_bounds h)))
    (settled_by-this k history settlement refl)
    ∙ ap (λ n. tally_as n (least_or_none network (pruned_bounds now)) (least_or_none network (solved_bounds now))) (length-append mine (settlement ∷ []))
    ∙ ap (λ by. tally_as (length mine + 1) by (least_or_none network (solved_bounds now))) (pruned_after network mine settlement)
    ∙ ap (tally_as (length mine + 1) (fold min (least_or_none network (pruned_bounds mine)) (pruned_bound settlement.event.outcome)))
    (solved_after network mine settlement)

-- ---- what is kept

pub kept_stays : (network : Network) (history : List Settlement) (settlement : Settlement) (kept : Option ℕ)
    → kept_of network (history ++ settlement ∷ []) ≡ kept_of network history → IsKept network history kept → IsKept network (history ++ settlement ∷ []) kept
kept_stays network history settlement None same is = same ∙ is
kept_stays network history settlement (Some number) same is =
    (is.0, is.1, is.2, is.3, is.4, event_stays history settlement number is.0 (solved is.1 is.2 is.3 is.4) is.5, same ∙ is.6)

kept_grows_solved : (network : Network) (history : List Settlement) (teller : ℕ) (path : List Decision) (offsets : List ℕ) (bound : ℕ) (leaf : Leaf)
    (chains : List (List ℕ)) (kept : Option ℕ) (number : ℕ) → number ≡ length history
    → let settlement : Settlement = record { teller = teller; event = record { path = path; outcome = solved offsets bound leaf chains } } in
    kept_of network (history ++ settlement ∷ []) ≡ Some offsets → IsKept network (history ++ settlement ∷ []) (Some number)
kept_grows_solved network history teller path offsets bound leaf chains kept number next now =
    (path, offsets, bound, leaf, chains, event_new history teller path (solved offsets bound leaf chains) number next, now)

-- a solved leaf of the same flowspan is kept where it comes before what was kept
kept_even : (network : Network) (history : List Settlement) (teller : ℕ) (path : List Decision) (offsets : List ℕ) (bound : ℕ) (leaf : Leaf)
    (chains : List (List ℕ)) (kept : Option ℕ) (number : ℕ) → number ≡ length history
    → bound ≡ best_bound network history → (first : Option (List ℕ)) → kept_of network history ≡ first → (first ≡ None → ⊥)
    → let settlement : Settlement = record { teller = teller; event = record { path = path; outcome = solved offsets bound leaf chains } } in
    IsKept network history kept → (better : Bool) → before_kept first offsets ≡ better
    → IsKept network (history ++ settlement ∷ []) (kept_after better kept number)
unfolding before_kept earlier
kept_even network history teller path offsets bound leaf chains kept number next same None first some is better test = absurd (some refl)
kept_even network history teller path offsets bound leaf chains kept number next same (Some before) first some is true test =
    let settlement : Settlement = record { teller = teller; event = record { path = path; outcome = solved offsets bound leaf chains } } in
    kept_grows_solved network history teller path offsets bound leaf chains kept number next
    ((kept_even_after network history settlement offsets bound leaf chains refl same).1 before first ∙ ap Some (cond-true _ offsets before test))
kept_even network history teller path offsets bound leaf chains kept number next same (Some before) first some is false test =
    let settlement : Settlement = record { teller = teller; event = record { path = path; outcome = solved offsets bound leaf chains } } in
    kept_stays network history settlement kept
    ((kept_even_after network history settlement offsets bound leaf chains refl same).1 before first
    ∙ ap Some (cond-false _ offsets before test) ∙ sym first) is

own_bound : (offsets : List ℕ) (bound : ℕ) (leaf : Leaf) (chains : List (List ℕ)) → Contains (solved_bound (solved offsets bound leaf chains)) bound
unfolding solved_bound
own_bound offsets bound leaf chains = Contains-head bound []

-- with a solved leaf of that flowspan to come something is kept
some_kept : (network : Network) (history : List Settlement) (settlement : Settlement) (offsets : List ℕ) (bound : ℕ) (leaf : Leaf) (chains : List (List ℕ))
    → IsLegal network (history ++ settlement ∷ [])
    → settlement.event.outcome ≡ solved offsets bound leaf chains → bound ≡ best_bound network history → (first : Option (List ℕ))
    → kept_of network history ≡ first → first ≡ None → ⊥
unfolding target_of
some_kept network history settlement offsets bound leaf chains legal is same first was none =
    let before = legal_beginning network history (settlement ∷ []) legal in
    let past : best_bound network history ≡ network.cycle + 1 = sym (kept_target network history before) ∙ ap (target_of network) (was ∙ none) in
    let low = solved-le-cycle network (history ++ settlement ∷ []) legal bound
    (solved_among (history ++ settlement ∷ []) settlement bound (Contains-append_right history (settlement ∷ []) settlement (Contains-head settlement []))
    (subst (λ o. Contains (solved_bound o) bound) (sym is) (own_bound offsets bound leaf chains))) in
    omega (arith, past, same, low)

pub kept_grows : (network : Network) (history : List Settlement) (teller : ℕ) (path : List Decision) (outcome : Outcome) (kept : Option ℕ) (best number : ℕ)
    → best ≡ best_bound network history → number ≡ length history
    → let settlement : Settlement = record { teller = teller; event = record { path = path; outcome = outcome } } in
    IsLegal network (history ++ settlement ∷ []) → IsKept network history kept
    → IsKept network (history ++ settlement ∷ []) (kept_after (is_better (kept_of network history) best outcome) kept number)
unfolding solved_bound
kept_grows network history teller path (split triple) kept best number lowest next legal is =
    let settlement : Settlement = record { teller = teller; event = record { path = path; outcome = split triple } } in
    kept_stays network history settlement kept (kept_same_after network history settlement (All-nil (λ bound. best_bound network history < bound))).1 is
kept_grows network history teller path (pruned bound leaf) kept best number lowest next legal is =
    let settlement : Settlement = record { teller = teller; event = record { path = path; outcome = pruned bound leaf } } in
    kept_stays network history settlement kept (kept_same_after network history settlement (All-nil (λ bound. best_bound network history < bound))).1 is
kept_grows network history teller path (tied bound leaf chains) kept best number lowest next legal is =
    let settlement : Settlement = record { teller = teller; event = record { path = path; outcome = tied bound leaf chains } } in
    kept_stays network history settlement kept (kept_same_after network history settlement (All-nil (λ bound. best_bound network history < bound))).1 is
kept_grows network history teller path (refuted leaf) kept best number lowest next legal is =
    let settlement : Settlement = record { teller = teller; event = record { path = path; outcome = refuted leaf } } in
    kept_stays network history settlement kept (kept_same_after network history settlement (All-nil (λ bound. best_bound network history < bound))).1 is
kept_grows network history teller path (solved offsets bound leaf chains) kept best number lowest next legal is =
    let settlement : Settlement = record { teller = teller; event = record { path = path; outcome = solved offsets bound leaf chains } } in
    let before : Bool = before_kept (kept_of network history) offsets in
    let result : Bool → Type 0 = λ better. IsKept network (history ++ settlement ∷ []) (kept_after better kept number) in
    elim (cases_lt bound best) [
      | inl less ↦
          let lower : bound < best_bound network history = omega (arith, less, lowest) in
          subst (λ b. result (b || (nat_eq bound best && before))) (sym (lt-ltb bound best less))
          (kept_grows_solved network history teller path offsets bound leaf chains kept number next
          (kept_lower_after network history settlement offsets bound leaf chains refl lower).1)
      | inr more ↦ elim (cases_eq bound best) [
        | inl even ↦
            let same : bound ≡ best_bound network history = even ∙ lowest in
            subst (λ b. result (b || (nat_eq bound best && before))) (sym (le-ltb bound best more))
            (subst (λ b. result (b && before)) (sym (eq-eqb bound best even))
            (kept_even network history teller path offsets bound leaf chains kept number next same (kept_of network history) refl
            (some_kept network history settlement offsets bound leaf chains legal refl same (kept_of network history) refl) is before refl))
        | inr other ↦
            let high : best_bound network history < bound = omega (arith, more, other, lowest) in
            subst (λ b. result (b || (nat_eq bound best && before))) (sym (le-ltb bound best more))
            (subst (λ b. result (b && before)) (sym (ne_eqb bound best other))
            (kept_stays network history settlement kept
            (kept_same_after network history settlement
            (All-cons (λ b. best_bound network history < b) bound [] high (All-nil (λ b. best_bound network history < b)))).1 is))
      ]
    ]

-- ---- all of it

-- what is known once the teller has settled one more event with this outcome
pub record IsKnownAfter (network : Network) (history : List Settlement) (open_count best : ℕ) (kept : Option ℕ) (tallies : List Tally)
    (teller : ℕ) (outcome : Outcome) (after : Summary) : Type 0 where
  pub opened : after.open_nodes + 1 ≡ open_count + child_count outcome
  pub lowered : after.best ≡ fold min best (solved_bound outcome)
  pub number : ℕ
  pub next : number ≡ length history
  pub keeping : after.kept ≡ kept_after (is_better (kept_of network history) best outcome) kept number
  pub tallying : after.tally ≡ tally_after (slice_index_or tallies teller (tally_as 0 0 0)) outcome

module _ {network : Network} {history : List Settlement} {open_count best : ℕ} {kept : Option ℕ} {tallies : List Tally}
    (legal : IsLegal network history) (before : IsSummary network history open_count best kept tallies) where
  summary_grows : (teller : ℕ) (path : List Decision) (outcome : Outcome) → IsAllowed network history (record { path = path; outcome = outcome })
      → teller < length tallies → (after : Summary) → IsKnownAfter network history open_count best kept tallies teller outcome after
      → IsSummary network (history ++ record { teller = teller; event = record { path = path; outcome = outcome } } ∷ [])
      after.open_nodes after.best after.kept (set tallies teller after.tally)
  summary_grows teller path outcome allowed is_teller after known =
      let settlement : Settlement = record { teller = teller; event = record { path = path; outcome = outcome } } in
      let longer : IsLegal network (history ++ settlement ∷ []) = legal_snoc network history settlement legal allowed in
      record {
        counted = omega (arith, known.opened, before.counted, open_counted network history settlement legal allowed);
        lowest = known.lowered ∙ ap (λ b. fold min b (solved_bound outcome)) before.lowest ∙ sym (best_after network history settlement);
        kept = subst (IsKept network (history ++ settlement ∷ [])) (sym known.keeping)
            (kept_grows network history teller path outcome kept best known.number before.lowest known.next longer before.kept);
        tallied = λ k below.
            elim (cases_eq teller k) [
              | inl same ↦
                  subst (λ t. slice_index_or (set tallies teller after.tally) t (tally_as 0 0 0) ≡ tally_of network t (history ++ settlement ∷ [])) same
                  (get_or-set_same tallies teller after.tally (tally_as 0 0 0) is_teller ∙ known.tallying
                  ∙ ap (λ t. tally_after t outcome) (before.tallied teller is_teller) ∙ sym (tally_of_this network history settlement))
              | inr turned ↦
                  let other : k ≢ teller = λ same. turned (sym same) in
                  let old : k < length tallies = omega (arith, below, length-set tallies teller after.tally) in
                  get_or-set_other tallies teller k after.tally (tally_as 0 0 0) other ∙ before.tallied k old
                  ∙ sym (tally-another network k history settlement turned)
            ];
        tellers =
            let same = sym (length-set tallies teller after.tally) in
            subst (λ n. All (λ (s : Settlement). s.teller < n) (history ++ settlement ∷ [])) same
            (All-append (λ (s : Settlement). s.teller < length tallies) history (settlement ∷ []) before.tellers
            (All-cons (λ (s : Settlement). s.teller < length tallies) settlement [] is_teller (All-nil (λ (s : Settlement). s.teller < length tallies))));
      }

-- the outcome of a numbered event, as it is stored
pub stored_outcome : (origins : List Origin) (events : List Settled) (number : ℕ) (path : List Decision) (outcome : Outcome)
    → IsEvent (history_of origins events) number path outcome → (read : Settled) → read ≡ get_or events number read
    → (number < length events) × (outcome_of read.look ≡ outcome)
unfolding history_of settlement_of
stored_outcome origins events number path outcome is read there =
    let it : Settlement = record { teller = is.there.0; event = record { path = path; outcome = outcome } } in
    let below : number < length events = omega (arith, is.within, length-map events (settlement_of (paths_of origins))) in
    let stored : Settled = get_or events number read in
    let at : get_or (history_of origins events) number (settlement_of (paths_of origins) read) ≡ it =
    get_or_from_slice_get (history_of origins events) number it (settlement_of (paths_of origins) read) is.there.1 in
    let same : settlement_of (paths_of origins) stored ≡ it = sym (get_or-map (settlement_of (paths_of origins)) events number read) ∙ at in
    (below, ap (λ (e : Settled). outcome_of e.look) there ∙ ap (λ (s : Settlement). s.event.outcome) same)

-- the kept event is stored, solved, with the offsets that are kept
pub kept_is_stored : (network : Network) (origins : List Origin) (events : List Settled) (number : ℕ) → IsKept network (history_of origins events) (Some number)
    → (number < length events) × ((read : Settled) → read ≡ get_or events number read
    → (offsets : List ℕ) × (bound : ℕ) × (leaf : Leaf) × (chains : List (List ℕ)) × (outcome_of read.look ≡ solved offsets bound leaf chains)
    × (kept_of network (history_of origins events) ≡ Some offsets))
kept_is_stored network origins events number is =
    let below : number < length events = omega (arith, is.5.within, length-history_of origins events) in (
      below,
      λ read there.
          (is.1, is.2, is.3, is.4, (stored_outcome origins events number is.0 (solved is.1 is.2 is.3 is.4) is.5 read there).1, is.6),
    )

-- two solved outcomes that are equal have the same offsets, and no other outcome is a solved one
abbrev pub HasOffsets : List ℕ → Outcome → Type 0
HasOffsets offsets (split triple) = ⊥
HasOffsets offsets (solved others bound leaf chains) = offsets ≡ others
HasOffsets offsets (pruned bound leaf) = ⊥
HasOffsets offsets (tied bound leaf chains) = ⊥
HasOffsets offsets (refuted leaf) = ⊥

pub stored_offsets : (offsets : List ℕ) (bound : ℕ) (leaf : Leaf) (chains : List (List ℕ)) (outcome : Outcome) → outcome ≡ solved offsets bound leaf chains
    → HasOffsets offsets outcome
stored_offsets offsets bound leaf chains outcome same = subst (HasOffsets offsets) (sym same) refl

module _ {network : Network} {origins : List Origin} {statuses : List Status} {events : List Settled} (tree : IsTree network origins statuses events) where
  -- there are no more open paths than places
  pub open_few : length (open_paths (history_of origins events)) ≤ length origins
  unfolding open_paths
  open_few =
      let history = history_of origins events in
      let unsettled : List Decision → Bool = λ path. not (is_settled history path) in
      omega (
        arith,
        length-filter unsettled (made_paths history),
        count_by-le-length unsettled (made_paths history),
        ap length tree.made,
        length-paths_of origins,
      )

-- a tally counts no more events than there are
pub tally_few : (network : Network) (history : List Settlement) (k : ℕ) (tally : Tally) → tally ≡ tally_of network k history → tally.events ≤ length history
unfolding tally_of settled_by
tally_few network history k tally same =
    let own : Settlement → Bool = λ s. s.teller == k in
    omega (arith, length-filter own history, count_by-le-length own history, ap (λ (t : Tally). t.events) same)

-- ---- the whole of a book

-- a book with nothing settled
pub start_book : {network : Network} {origins : List Origin} {statuses : List Status} {events : List Settled} → IsTree network origins statuses events
    → (limit cycle tellers : ℕ) → statuses ≡ Open ∷ []
    → history_of origins events ≡ [] → events ≡ [] → cycle ≡ network.cycle → IsWellFormed network
    → IsBook network origins statuses events (false ∷ []) limit 1 (cycle + 1) None (replicate tellers (tally_as 0 (cycle + 1) (cycle + 1)))
start_book {network} tree limit cycle tellers root nothing none same formed =
    record {
      tree = tree;
      closed = subst (λ ss. AreClosed ss (false ∷ [])) (sym root) (record { counted = refl; each = λ place within. root_flags place within });
      within_limit = omega (arith, ap length none);
      summary = subst (λ h. IsSummary network h 1 (cycle + 1) None (replicate tellers (tally_as 0 (cycle + 1) (cycle + 1)))) (sym nothing)
          (empty_summary network cycle tellers same);
      formed = formed;
    }
  where
    root_flags : (place : ℕ) → place < 1 → ClosedAt (false ∷ []) place (slice_index_or (Open ∷ []) place Open)
    root_flags zero within = refl
    root_flags (suc place) within = absurd (omega (arith, within))

module _ {network : Network} {origins : List Origin} {statuses : List Status} {events : List Settled} {flags : List Bool}
    {limit open_count best : ℕ} {kept : Option ℕ} {tallies : List Tally}
    (book : IsBook network origins statuses events flags limit open_count best kept tallies) where
  -- what a book keeps to
  pub lawful : IsLawful (record { network = network; tellers = length tallies; limit = limit; history = history_of origins events })
  lawful =
      let history = history_of origins events in
      record {
        legal = book.tree.legal;
        within_limit = omega (arith, book.within_limit, length-history_of origins events);
        by_tellers = book.summary.tellers;
        short = length-legal network (conflicts_of network) (conflict_listed network book.formed) history book.tree.legal;
        shorter = length-legal_open network (conflicts_of network) (conflict_listed network book.formed) history book.tree.legal;
      }

  -- after one more settlement
  pub book_grows : (teller : ℕ) (path : List Decision) (outcome : Outcome) → teller < length tallies → length (history_of origins events) < limit
      → IsAllowed network (history_of origins events) (record { path = path; outcome = outcome })
      → (after : Summary) → IsKnownAfter network (history_of origins events) open_count best kept tallies teller outcome after
      → (network' : Network) (origins' : List Origin) (statuses' : List Status) (events' : List Settled) (flags' : List Bool) → network' ≡ network
      → IsTree network' origins' statuses' events' → AreClosed statuses' flags'
      → history_of origins' events' ≡ history_of origins events ++ record { teller = teller; event = record { path = path; outcome = outcome } } ∷ []
      → IsBook network' origins' statuses' events' flags' limit after.open_nodes after.best after.kept (set tallies teller after.tally)
  book_grows teller path outcome is_teller below allowed after known network' origins' statuses' events' flags' same_network tree closed longer =
      let history = history_of origins events in
      let settlement : Settlement = record { teller = teller; event = record { path = path; outcome = outcome } } in
      let sum : length (history_of origins' events') ≡ length history + 1 = ap length longer ∙ length-append history (settlement ∷ []) in
      let new = set tallies teller after.tally in
      record {
        tree = tree;
        closed = closed;
        within_limit = omega (arith, sum, below, length-history_of origins' events');
        summary = subst (λ n. IsSummary n (history_of origins' events') after.open_nodes after.best after.kept new) (sym same_network)
            (subst (λ h. IsSummary network h after.open_nodes after.best after.kept new) (sym longer)
            (summary_grows book.tree.legal book.summary teller path outcome allowed is_teller after known));
        formed = subst IsWellFormed (sym same_network) book.formed;
      }

module _ {network : Network} {history : List Settlement} (legal : IsLegal network history) where
  -- what is kept is valid, with the least flowspan that was solved
  pub kept_best : (offsets : List ℕ) → kept_of network history ≡ Some offsets
      → IsValid network offsets × (flowspan network offsets ≡ best_bound network history)
  kept_best offsets is =
      subst (λ kept. MatchOption kept (solved_bounds history ≡ []) (λ os. IsValid network os × (flowspan network os ≡ best_bound network history))) is
      (kept_valid network history legal)

  -- where nothing is kept nothing was solved
  pub none_best : kept_of network history ≡ None → best_bound network history ≡ network.cycle + 1
  unfolding target_of
  none_best none = sym (kept_target network history legal) ∙ ap (target_of network) none

  -- the least solved flowspan is a target
  pub best_target : IsBelowBounds network (best_bound network history) history
  best_target = let below = best_is_below network history legal in (below.solved, below.pruned)

-- the outcome solves this
abbrev pub HasSolution : List ℕ → ℕ → Outcome → Type 0
HasSolution offsets bound (split triple) = ⊥
HasSolution offsets bound (solved others other leaf chains) = (offsets ≡ others) × (bound ≡ other)
HasSolution offsets bound (pruned other leaf) = ⊥
HasSolution offsets bound (tied other leaf chains) = ⊥
HasSolution offsets bound (refuted leaf) = ⊥

stored_solution : (offsets : List ℕ) (bound : ℕ) (leaf : Leaf) (chains : List (List ℕ)) (outcome : Outcome) → outcome ≡ solved offsets bound leaf chains
    → HasSolution offsets bound outcome
stored_solution offsets bound leaf chains outcome same = subst (HasSolution offsets bound) (sym same) (refl, refl)

right_flowspan : (network : Network) (before : List Settlement) (path : List Decision) (outcome : Outcome) (offsets : List ℕ) (bound : ℕ) (leaf : Leaf)
    (chains : List (List ℕ)) → outcome ≡ solved offsets bound leaf chains
    → IsRight network before path outcome → flowspan network offsets ≡ bound
right_flowspan network before path outcome offsets bound leaf chains is right =
    let solves : IsRight network before path (solved offsets bound leaf chains) = subst (IsRight network before path) is right in
    solves.1

-- what a tree keeps, as it is read
pub tree_keeps : (network : Network) (origins : List Origin) (events : List Settled) → IsLegal network (history_of origins events) → (number : ℕ)
    → IsKept network (history_of origins events) (Some number)
    → (read : Settled) → read ≡ get_or events number read
    → (offsets : List ℕ) × (bound : ℕ) × HasSolution offsets bound (outcome_of read.look) × (kept_of network (history_of origins events) ≡ Some offsets)
    × (flowspan network offsets ≡ bound)
unfolding kept_is_stored
tree_keeps network origins events legal number is read there =
    let history = history_of origins events in
    let stored = (kept_is_stored network origins events number is).1 read there in
    let settlement : Settlement = record { teller = is.5.there.0; event = record { path = is.0; outcome = solved is.1 is.2 is.3 is.4 } } in
    let right = settlement_right network history legal settlement (event_among history settlement number is.5.within is.5.there.1) in (
      is.1,
      is.2,
      stored_solution is.1 is.2 is.3 is.4 (outcome_of read.look) stored.4,
      is.6,
      right_flowspan network right.0 is.0 (solved is.1 is.2 is.3 is.4) is.1 is.2 is.3 is.4 refl right.3.is_right,
    )

-- with the same flowspan the order of the offsets decides
pub even_better : (first : Option (List ℕ)) (offsets : List ℕ) (bound best : ℕ) → bound ≡ best
    → (nat_lt bound best || (nat_eq bound best && before_kept first offsets)) ≡ before_kept first offsets
even_better first offsets bound best same =
    let not_less : nat_lt bound best ≡ false = le-ltb bound best (omega (arith, same)) in
    let even : nat_eq bound best ≡ true = eq-eqb bound best same in
    λ i. not_less i || (even i && before_kept first offsets)

-- what follows from each case of a search follows from its answer
pub match_gives : {X : Type 0} (found : Option X) (None_is Other : Type 0) (Is That : X → Type 0) → (None_is → Other) → ((x : X) → Is x → That x)
    → MatchOption found None_is Is → MatchOption found Other That
match_gives None None_is Other Is That without with it = without it
match_gives (Some x) None_is Other Is That without with it = with x it
