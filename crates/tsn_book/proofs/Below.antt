-- Events that are settled one after another, and where a walk stands after them.
use Rattle.std.proofs.Common.{◌≡◌, ◌≢◌, ℕ, suc, ◌+◌, ◌-◌, ◌<◌, ◌≤◌, List, [], ◌∷◌, ◌++◌, map, reverse, length, take, drop, get_or, All, Some, refl, sym, ap, ◌∙◌, subst, arith, append_assoc}
use Rattle.std.specs.Prelude.{slice_get, Option, IsSomeAnd}
use Rattle.std.proofs.Math.Seq.{take-append_seam, drop-append_seam, get_or-append_seam}
use Rattle.std.proofs.lemmas.List.{append-nil, map-append, reverse-append, length-append, length-map, get_or-append-add}
use Rattle.std.proofs.lemmas.List.Elements.{All-head, All-tail}
use Rattle.std.proofs.lemmas.Option.{slice_get-get_or}
use Rattle.tsn_model.specs.declared.Triple.{Triple}
use Rattle.tsn_model.specs.declared.Side.TheVariants.{Left, Right}
use Rattle.tsn_model.specs.declared.Decision.{Decision}
use Rattle.tsn_model.specs.Network.{Network}
use Rattle.tsn_model.specs.Certificate.{decided}
use Rattle.tsn_model.specs.Places.{pending}
use Rattle.tsn_model.specs.Search.{Outcome, split, solved, pruned, tied, refuted, Event, Settlement, children_of, made_paths}
use Rattle.tsn_model.proofs.Places.{pending-nil, pending-left, pending-right}
use Rattle.tsn_model.proofs.Decisions.{take-decided}
use Rattle.tsn_model.specs.Walk.{path_made, IsPlaceOf}
use Rattle.tsn_model.proofs.Histories.{made_paths-snoc}
use Rattle.tsn_conflict.specs.declared.outcome.Look.{Look}
use Rattle.tsn_conflict.specs.Outcome.{outcome_of}
use Rattle.tsn_book.specs.declared.event.Event.{Event as Found}
use Rattle.tsn_book.specs.Event.{event_of}
use Rattle.tsn_book.specs.Arena.{IsLeafOutcome}
use Rattle.tsn_book.specs.Book.{Progress, IsFault}
use Rattle.tsn_book.specs.declared.fault.BookFault.{BookFault}
use Rattle.tsn_book.specs.Below.{settlements_by, after_leaf, next_path, path_after, events_below, IsFaultAt}

-- ---- one of a list

-- what holds of all holds of the one in between
pub here : {X : Type 0} (P : X → Type 0) (before : List X) (x : X) (after : List X) → All P (before ++ x ∷ after) → P x
here P [] x after all = All-head P x after all
here P (b ∷ before) x after all = here P before x after (All-tail P b (before ++ x ∷ after) all)

-- why the one in between isn't settled
pub fault_here : (network : Network) (limit : ℕ) (history : List Settlement) (before : List Event) (event : Event) (after : List Event) (fault : BookFault)
    → IsFault network limit history event fault → IsFaultAt network limit history (before ++ event ∷ after) (length before) fault
fault_here network limit history before event after fault is =
    let within : length before < length (before ++ event ∷ after) = omega (arith, length-append before (event ∷ after)) in
    let there : slice_get (before ++ event ∷ after) (length before) ≡ Some event =
    slice_get-get_or (before ++ event ∷ after) (length before) event within ∙ ap (λ (e : Event). Some e) (get_or-append_seam before event after event) in
    subst (λ (found : Option Event). IsSomeAnd found (λ (e : Event). IsFault network limit history e fault)) (sym there) is

pub fault_number : (network : Network) (limit : ℕ) (history : List Settlement) (all before : List Event) (event : Event) (after : List Event) (n : ℕ)
    (fault : BookFault)
    → all ≡ before ++ event ∷ after → n ≡ length before → IsFault network limit history event fault → IsFaultAt network limit history all n fault
fault_number network limit history all before event after n fault parts at is =
    subst (λ k. IsFaultAt network limit history all k fault) (sym at)
    (subst (λ events. IsFaultAt network limit history events (length before) fault) (sym parts) (fault_here network limit history before event after fault is))

-- a list cut before the one in between
pub cut : {X : Type 0} (all before : List X) (x : X) (after : List X) (n : ℕ) → all ≡ before ++ x ∷ after → n ≡ length before
    → (n < length all) × (take n all ≡ before) × (drop n all ≡ x ∷ after)
cut all before x after n is at = (
  omega (arith, ap length is, length-append before (x ∷ after), at),
  ap (take n) is ∙ ap (λ k. take k (before ++ x ∷ after)) at ∙ take-append_seam before (x ∷ after),
  ap (drop n) is ∙ ap (λ k. drop k (before ++ x ∷ after)) at ∙ drop-append_seam before (x ∷ after),
)

-- ---- what is settled

-- the book after these events of a teller
abbrev pub book_after : Progress → ℕ → List Event → Progress
book_after book teller events =
    record { network = book.network; tellers = book.tellers; limit = book.limit; history = book.history ++ settlements_by teller events }

pub nothing_settled : (book : Progress) (teller : ℕ) → book ≡ book_after book teller []
nothing_settled book teller = λ i. record { network = book.network; tellers = book.tellers; limit = book.limit; history = sym (append-nil book.history) i }

-- one more event of a teller
pub settled_more : (book : Progress) (now next : Progress) (teller : ℕ) (events : List Event) (event : Event)
    → now ≡ book_after book teller events
    → next ≡ record { network = now.network; tellers = now.tellers; limit = now.limit; history = now.history ++ record { teller = teller; event = event } ∷ [] }
    → next ≡ book_after book teller (events ++ event ∷ [])
settled_more book now next teller events event is settled =
    let one : Settlement = record { teller = teller; event = event } in
    let history : now.history ++ one ∷ [] ≡ book.history ++ settlements_by teller (events ++ event ∷ []) =
    ap (λ (p : Progress). p.history ++ one ∷ []) is
    ∙ append_assoc book.history (settlements_by teller events) (one ∷ [])
    ∙ ap (λ more. book.history ++ more)
    (sym (map-append (λ (e : Event). let s : Settlement = record { teller = teller; event = e } in s) events (event ∷ []))) in
    settled
    ∙ (λ i. record {
      network = (ap (λ (p : Progress). p.network) is) i;
      tellers = (ap (λ (p : Progress). p.tellers) is) i;
      limit = (ap (λ (p : Progress). p.limit) is) i;
      history = history i;
    })

-- how many were settled
pub settled_count : (book now : Progress) (teller : ℕ) (events : List Event)
    → now ≡ book_after book teller events
    → length now.history ≡ length book.history + length events
settled_count book now teller events is =
    ap (λ (p : Progress). length p.history) is ∙ length-append book.history (settlements_by teller events)
    ∙ ap (λ n. length book.history + n) (length-map events (λ (e : Event). let s : Settlement = record { teller = teller; event = e } in s))

-- ---- a walk

pub events_below-append : (path : List Decision) (first more : List Outcome)
    → events_below path (first ++ more) ≡ events_below path first ++ events_below (path_after path first) more
unfolding events_below path_after
events_below-append path [] more = refl
events_below-append path (outcome ∷ first) more =
    let event : Event = record { path = path; outcome = outcome } in
    ap (λ es. event ∷ es) (events_below-append (next_path path outcome) first more)

pub path_after-append : (path : List Decision) (first more : List Outcome) → path_after path (first ++ more) ≡ path_after (path_after path first) more
unfolding path_after
path_after-append path [] more = refl
path_after-append path (outcome ∷ first) more = path_after-append (next_path path outcome) first more

pub length-events_below : (path : List Decision) (outcomes : List Outcome) → length (events_below path outcomes) ≡ length outcomes
unfolding events_below
length-events_below path [] = refl
length-events_below path (outcome ∷ outcomes) = ap suc (length-events_below (next_path path outcome) outcomes)

-- one more outcome is found where the walk stands
pub events_below-more : (path : List Decision) (outcomes : List Outcome) (outcome : Outcome)
    → events_below path (outcomes ++ outcome ∷ []) ≡ events_below path outcomes ++ record { path = path_after path outcomes; outcome = outcome } ∷ []
unfolding events_below
events_below-more path outcomes outcome = events_below-append path outcomes (outcome ∷ [])

pub path_after-more : (path : List Decision) (outcomes : List Outcome) (outcome : Outcome)
    → path_after path (outcomes ++ outcome ∷ []) ≡ next_path (path_after path outcomes) outcome
unfolding path_after
path_after-more path outcomes outcome = path_after-append path outcomes (outcome ∷ [])

-- the events around the one where the walk stands
pub events_below-parts : (path : List Decision) (before : List Outcome) (outcome : Outcome) (after : List Outcome)
    → events_below path (before ++ outcome ∷ after)
    ≡ events_below path before ++ record { path = path_after path before; outcome = outcome } ∷ events_below (next_path (path_after path before) outcome) after
unfolding events_below
events_below-parts path before outcome after = events_below-append path before (outcome ∷ after)

-- the first of the events are those of the first outcomes
pub take_events : (path : List Decision) (first more : List Outcome) → take (length first) (events_below path (first ++ more)) ≡ events_below path first
take_events path first more =
    ap (take (length first)) (events_below-append path first more)
    ∙ ap (λ n. take n (events_below path first ++ events_below (path_after path first) more)) (sym (length-events_below path first))
    ∙ take-append_seam (events_below path first) (events_below (path_after path first) more)

-- ---- where a walk goes on

pub after_turn : (old walk front : List Decision) (triple : Triple) → pending walk ≡ pending old → walk ≡ decided front triple Left
    → decided front triple Right ≡ after_leaf old
unfolding after_leaf
after_turn old walk front triple same is =
    ap (λ paths. get_or paths 0 []) (sym (sym same ∙ ap pending is ∙ pending-left front triple))

pub after_root : (old walk : List Decision) → pending walk ≡ pending old → walk ≡ [] → walk ≡ after_leaf old
unfolding after_leaf
after_root old walk same is = is ∙ ap (λ paths. get_or paths 0 []) (sym (sym same ∙ ap pending is ∙ pending-nil))

-- taking back a right turn leaves what waits
pub right_taken : (walk front : List Decision) (triple : Triple) → walk ≡ decided front triple Right
    → (take (length walk - 1) walk ≡ front) × (pending front ≡ pending walk)
right_taken walk front triple is = (
  ap (λ (path : List Decision). take (length path - 1) path) is ∙ take-decided front triple Right,
  sym (ap pending is ∙ pending-right front triple),
)

pub closes_leaf : (path : List Decision) (outcome : Outcome) → IsLeafOutcome outcome → next_path path outcome ≡ after_leaf path
unfolding next_path
closes_leaf path (split triple) leaf = absurd leaf
closes_leaf path (solved offsets bound leaf chains) is = refl
closes_leaf path (pruned bound leaf) is = refl
closes_leaf path (tied bound leaf chains) is = refl
closes_leaf path (refuted leaf) is = refl

pub split_next : (path : List Decision) (triple : Triple) → decided path triple Left ≡ next_path path (split triple)
unfolding next_path
split_next path triple = refl

-- ---- places of the next ones

-- the Left child has the last place but one
pub left_place : (history now : List Settlement) (teller : ℕ) (path : List Decision) (triple : Triple) (made : ℕ)
    → now ≡ history ++ record { teller = teller; event = record { path = path; outcome = split triple } } ∷ [] → made ≡ length (made_paths now)
    → (2 ≤ made) × IsPlaceOf now (decided path triple Left) (made - 2)
unfolding children_of path_made
left_place history now teller path triple made is count =
    let settlement : Settlement = record { teller = teller; event = record { path = path; outcome = split triple } } in
    let left = decided path triple Left in
    let right = decided path triple Right in
    let longer : made_paths now ≡ made_paths history ++ left ∷ right ∷ [] = ap made_paths is ∙ made_paths-snoc history settlement in
    let total : length (made_paths now) ≡ length (made_paths history) + 2 = ap length longer ∙ length-append (made_paths history) (left ∷ right ∷ []) in
    let last : made - 2 ≡ length (made_paths history) + 0 = omega (arith, total, count) in (
      omega (arith, total, count),
      record {
        within = omega (arith, total, count);
        is = ap (λ paths. get_or paths (made - 2) []) longer ∙ ap (λ n. get_or (made_paths history ++ left ∷ right ∷ []) n []) last
            ∙ get_or-append-add (made_paths history) (left ∷ right ∷ []) 0 [];
      },
    )

-- ---- a list taken from its end

-- the next event is the first of those that are left
pub next_first : {X : Type 0} (all taken rest fewer : List X) (x : X) → all ≡ taken ++ reverse rest → rest ≡ fewer ++ x ∷ [] → all ≡ taken ++ x ∷ reverse fewer
next_first all taken rest fewer x is popped = is ∙ ap (λ more. taken ++ more) (ap reverse popped ∙ reverse-append fewer (x ∷ []))

pub one_more : {X : Type 0} (all taken : List X) (x : X) (more : List X) → all ≡ taken ++ x ∷ more → all ≡ (taken ++ x ∷ []) ++ more
one_more all taken x more is = is ∙ sym (append_assoc taken (x ∷ []) more)

-- ---- what is refused

-- a refusal is for the network and the limit of the book from the start
same_fault : (book now : Progress) (teller : ℕ) (events : List Event) (event : Event) (fault : BookFault) → now ≡ book_after book teller events
    → IsFault now.network now.limit now.history event fault → IsFault book.network book.limit now.history event fault
same_fault book now teller events event fault settled is =
    subst (λ (network : Network). IsFault network book.limit now.history event fault) (ap (λ (p : Progress). p.network) settled)
    (subst (λ limit. IsFault now.network limit now.history event fault) (ap (λ (p : Progress). p.limit) settled) is)

pub refused_event : (book now : Progress) (teller : ℕ) (events taken : List Found) (event : Found) (rest : List Found) (n : ℕ) (fault : BookFault)
    → events ≡ taken ++ event ∷ rest → now ≡ book_after book teller (map event_of taken) → length now.history ≡ n + length book.history
    → IsFault now.network now.limit now.history (event_of event) fault → IsFaultAt book.network book.limit now.history (map event_of events) n fault
refused_event book now teller events taken event rest n fault parts settled counted is =
    let many = settled_count book now teller (map event_of taken) settled in
    let at : n ≡ length (map event_of taken) = omega (arith, counted, many) in
    let mapped : map event_of events ≡ map event_of taken ++ event_of event ∷ map event_of rest =
    ap (map event_of) parts ∙ map-append event_of taken (event ∷ rest) in
    fault_number book.network book.limit now.history (map event_of events) (map event_of taken) (event_of event) (map event_of rest) n fault mapped at
    (same_fault book now teller (map event_of taken) (event_of event) fault settled is)

pub refused_looks : (book now : Progress) (teller : ℕ) (from walk : List Decision) (looks taken rest : List Look) (found : Look) (n : ℕ) (fault : BookFault)
    → looks ≡ taken ++ found ∷ rest → now ≡ book_after book teller (events_below from (map outcome_of taken)) → walk ≡ path_after from (map outcome_of taken)
    → length now.history ≡ n + length book.history
    → IsFault now.network now.limit now.history (record { path = walk; outcome = outcome_of found }) fault
    → ((n < length looks) × (now ≡ book_after book teller (take n (events_below from (map outcome_of looks))))
    × (walk ≡ path_after from (take n (map outcome_of looks))))
    × IsFaultAt book.network book.limit now.history (events_below from (map outcome_of looks)) n fault
refused_looks book now teller from walk looks taken rest found n fault parts settled stands counted is =
    let outcomes = map outcome_of taken in
    let many = settled_count book now teller (events_below from outcomes) settled in
    let at : n ≡ length outcomes = omega (arith, counted, many, length-events_below from outcomes) in
    let mapped : map outcome_of looks ≡ outcomes ++ outcome_of found ∷ map outcome_of rest =
    ap (map outcome_of) parts ∙ map-append outcome_of taken (found ∷ rest) in
    let whole = cut (map outcome_of looks) outcomes (outcome_of found) (map outcome_of rest) n mapped at in
    let first : take n (events_below from (map outcome_of looks)) ≡ events_below from outcomes =
    ap (λ os. take n (events_below from os)) mapped ∙ ap (λ k. take k (events_below from (outcomes ++ outcome_of found ∷ map outcome_of rest))) at
    ∙ take_events from outcomes (outcome_of found ∷ map outcome_of rest) in
    let event : Event = record { path = path_after from outcomes; outcome = outcome_of found } in
    let all : events_below from (map outcome_of looks)
    ≡ events_below from outcomes ++ event ∷ events_below (next_path (path_after from outcomes) (outcome_of found)) (map outcome_of rest) =
    ap (events_below from) mapped ∙ events_below-parts from outcomes (outcome_of found) (map outcome_of rest) in
    let here_now : IsFault now.network now.limit now.history event fault =
    subst (λ (path : List Decision). IsFault now.network now.limit now.history (record { path = path; outcome = outcome_of found }) fault) stands is in (
      (omega (arith, whole.0, length-map looks outcome_of), settled ∙ ap (book_after book teller) (sym first), stands ∙ ap (path_after from) (sym whole.1)),
      fault_number book.network book.limit now.history (events_below from (map outcome_of looks)) (events_below from outcomes) event
          (events_below (next_path (path_after from outcomes) (outcome_of found)) (map outcome_of rest)) n fault all
          (at ∙ sym (length-events_below from outcomes)) (same_fault book now teller (events_below from outcomes) event fault settled here_now),
    )

-- what holds of all events of a walk holds where it stands
pub here_below : (P : Event → Type 0) (from walk : List Decision) (looks taken : List Look) (found : Look) (rest : List Look) → looks ≡ taken ++ found ∷ rest
    → walk ≡ path_after from (map outcome_of taken)
    → All P (events_below from (map outcome_of looks)) → P (record { path = walk; outcome = outcome_of found })
here_below P from walk looks taken found rest parts stands all =
    let outcomes = map outcome_of taken in
    let mapped : map outcome_of looks ≡ outcomes ++ outcome_of found ∷ map outcome_of rest =
    ap (map outcome_of) parts ∙ map-append outcome_of taken (found ∷ rest) in
    let event : Event = record { path = path_after from outcomes; outcome = outcome_of found } in
    let more = events_below (next_path (path_after from outcomes) (outcome_of found)) (map outcome_of rest) in
    let around : events_below from (map outcome_of looks) ≡ events_below from outcomes ++ event ∷ more =
    ap (events_below from) mapped ∙ events_below-parts from outcomes (outcome_of found) (map outcome_of rest) in
    subst (λ (path : List Decision). P (record { path = path; outcome = outcome_of found })) (sym stands)
    (here P (events_below from outcomes) event more (subst (All P) around all))

-- one more look
pub settled_below : (book now next : Progress) (teller : ℕ) (from walk : List Decision) (taken : List Look) (found : Look)
    → now ≡ book_after book teller (events_below from (map outcome_of taken)) → walk ≡ path_after from (map outcome_of taken)
    → next ≡ record {
      network = now.network;
      tellers = now.tellers;
      limit = now.limit;
      history = now.history ++ record { teller = teller; event = record { path = walk; outcome = outcome_of found } } ∷ [];
    }
    → next ≡ book_after book teller (events_below from (map outcome_of (taken ++ found ∷ [])))
settled_below book now next teller from walk taken found is stands settled =
    let outcomes = map outcome_of taken in
    let event : Event = record { path = walk; outcome = outcome_of found } in
    let more : events_below from (map outcome_of (taken ++ found ∷ [])) ≡ events_below from outcomes ++ event ∷ [] =
    ap (events_below from) (map-append outcome_of taken (found ∷ [])) ∙ events_below-more from outcomes (outcome_of found)
    ∙ ap (λ (path : List Decision). let e : Event = record { path = path; outcome = outcome_of found } in events_below from outcomes ++ e ∷ []) (sym stands) in
    settled_more book now next teller (events_below from outcomes) event is settled ∙ ap (book_after book teller) (sym more)

pub walked : (from walk next : List Decision) (taken : List Look) (found : Look) → walk ≡ path_after from (map outcome_of taken)
    → next ≡ next_path walk (outcome_of found) → next ≡ path_after from (map outcome_of (taken ++ found ∷ []))
walked from walk next taken found stands is =
    is ∙ ap (λ path. next_path path (outcome_of found)) stands
    ∙ sym (path_after-more from (map outcome_of taken) (outcome_of found)) ∙ ap (path_after from) (sym (map-append outcome_of taken (found ∷ [])))

pub not_walked : (book : Progress) (teller : ℕ) (from : List Decision) → book ≡ book_after book teller (events_below from [])
unfolding events_below
not_walked book teller from = nothing_settled book teller

pub no_step : (from : List Decision) → from ≡ path_after from []
unfolding path_after
no_step from = refl

-- nothing is settled where the first node's place isn't open
pub refused_first : (book : Progress) (teller : ℕ) (from : List Decision) (looks : List Look) (fault : BookFault) → looks ≢ []
    → ((outcome : Outcome) → IsFault book.network book.limit book.history (record { path = from; outcome = outcome }) fault)
    → ((0 < length looks) × (book ≡ book_after book teller (take 0 (events_below from (map outcome_of looks))))
    × (from ≡ path_after from (take 0 (map outcome_of looks))))
    × IsFaultAt book.network book.limit book.history (events_below from (map outcome_of looks)) 0 fault
unfolding events_below path_after
refused_first book teller from [] fault some is = absurd (some refl)
refused_first book teller from (found ∷ looks) fault some is = ((omega arith, nothing_settled book teller, refl), is (outcome_of found))

-- what holds of all events of a walk holds of the first look's
pub first_below : (P : Event → Type 0) (from : List Decision) (looks : List Look) (found : Look) → looks ≡ found ∷ drop 1 looks
    → All P (events_below from (map outcome_of looks)) → P (record { path = from; outcome = outcome_of found })
first_below P from looks found parts all = here_below P from from looks [] found (drop 1 looks) parts (no_step from) all

-- nothing is settled where the first look is refused
pub first_refused : (book now : Progress) (teller : ℕ) (from : List Decision) (looks : List Look) (found : Look) (fault : BookFault)
    → looks ≡ found ∷ drop 1 looks → now ≡ book → IsFault now.network now.limit now.history (record { path = from; outcome = outcome_of found }) fault
    → ((0 < length looks) × (now ≡ book_after book teller (take 0 (events_below from (map outcome_of looks))))
    × (from ≡ path_after from (take 0 (map outcome_of looks))))
    × IsFaultAt book.network book.limit now.history (events_below from (map outcome_of looks)) 0 fault
first_refused book now teller from looks found fault parts same is =
    refused_looks book now teller from from looks [] (drop 1 looks) found 0 fault parts (same ∙ not_walked book teller from) (no_step from)
    (omega (arith, ap (λ (p : Progress). length p.history) same)) is

-- with no looks nothing is settled
pub none_below : (book : Progress) (teller : ℕ) (from : List Decision) (looks : List Look) → looks ≡ []
    → (book ≡ book_after book teller (events_below from (map outcome_of looks))) × (from ≡ path_after from (map outcome_of looks))
none_below book teller from looks none =
    let same : [] ≡ map outcome_of looks = sym (ap (map outcome_of) none) in
    (not_walked book teller from ∙ ap (λ os. book_after book teller (events_below from os)) same, no_step from ∙ ap (path_after from) same)

-- the path above the decision that a walk went down last
pub above_push : (long path walk : List Decision) (triple : Triple) → long ≡ decided walk triple Left → path ≡ decided walk triple Left
    → take (length long - 1) path ≡ walk
above_push long path walk triple first second =
    ap (λ (p : List Decision). take (length p - 1) path) first ∙ ap (λ (p : List Decision). take (length (decided walk triple Left) - 1) p) second
    ∙ take-decided walk triple Left

-- ---- what waits

-- what waits is the first look and the others
pub first_waits : (waiting : List Look) (d : Look) → 1 ≤ length waiting → waiting ≡ get_or waiting 0 d ∷ drop 1 waiting
first_waits [] d some = absurd (omega (arith, some))
first_waits (look ∷ waiting) d some = refl
