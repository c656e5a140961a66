-- Moves: arcs of the view, rounds, and what is left of a clause.
use Rattle.std.proofs.Common.{◌≡◌, ℕ, zero, suc, ◌+◌, ◌≤◌, ◌<◌, List, [], ◌∷◌, ◌++◌, length, take, get_or, map, Option, Some, None, ℤ, pos, ◌+ℤ◌, ◌≤ℤ◌, ◌*◌, All, Contains, true, false, refl, sym, ap, ◌∙◌, subst, inl, inr, arith}
use Rattle.std.specs.Prelude.{Ok, not, drop, is_some}
use Rattle.std.proofs.lemmas.Int.{ints}
use Rattle.std.proofs.lemmas.Bool.{true≢false}
use Rattle.std.proofs.lemmas.List.{take_more, take_all, take-append-drop, length-append, length-map, get_or-map, map_more, map-append}
use Rattle.std.proofs.lemmas.List.Elements.{filter-append, All-nil, All-cons, All-push, Contains-push, Contains-append_left}
use Rattle.tsn_model.specs.declared.Arc.{Arc}
use Rattle.tsn_model.specs.declared.Decision.{Decision}
use Rattle.tsn_model.specs.Network.{Network, stream_count}
use Rattle.tsn_model.specs.Schedule.{IsConflict}
use Rattle.tsn_model.specs.Arcs.{arc_of}
use Rattle.tsn_model.specs.Argument.{Fact as ModelFact, IsFact, apply, shown, refuting, unit_of, clause_at, View, LeadsBy, weight_by, contradicts, left_open, turned}
use Rattle.tsn_model.proofs.Lists.{All-unmap}
use Rattle.tsn_model.proofs.ArgumentMoves.{arc_within}
use Rattle.tsn_cert.specs.Fact.{fact_of, clause_of}
use Rattle.tsn_cert.specs.Order.{decision_of}
use Rattle.tsn_cert.specs.declared.order.Order.{Order}
use Rattle.tsn_cert.specs.declared.fact.Fact.{Fact}
use Rattle.std.specs.Borrow.{Bor}
use Rattle.std.proofs.lemmas.Option.{slice_get-get_or}
use Rattle.tsn_check.specs.declared.wrong.Wrong.{Wrong}
use Rattle.tsn_check.specs.declared.wrong.Wrong.TheVariants.{NotClosed}
use Rattle.tsn_argue.specs.Faults.{IsWrongOrder, IsUnclosed}
use Rattle.tsn_argue.specs.Motion.{FindsUnit, IsArcIn, clauses_of}

-- ---- arcs

-- the streams of a conflict's arc are there
pub arc_there : (network : Network) (decision : Decision) (arc : Arc) → arc ≡ arc_of network decision → IsConflict network decision.triple
    → (arc.from < stream_count network) × (arc.to < stream_count network)
unfolding arc_of
arc_there network decision arc is conflict =
    subst (λ (a : Arc). (a.from < stream_count network) × (a.to < stream_count network)) (sym is) (arc_within network decision.triple decision.side conflict)

pub turned_triple : (decision other : Decision) → other ≡ turned decision → other.triple ≡ decision.triple
unfolding turned
turned_triple decision other is = ap (λ (d : Decision). d.triple) is

-- ---- rounds

module _ (network : Network) where
  pub leads_more : (i m : ℕ) (ds : List Decision) (d : Decision) → LeadsBy network i ds m → (arc_of network d).from ≡ m
      → LeadsBy network i (ds ++ d ∷ []) (arc_of network d).to
  leads_more i m [] d here meets = (meets ∙ sym here, refl)
  leads_more i m (e ∷ ds) d leads meets = (leads.0, leads_more (arc_of network e).to m ds d leads.1 meets)

  pub leads_same : (i j m : ℕ) (ds : List Decision) → LeadsBy network i ds j → LeadsBy network i ds m → j ≡ m
  leads_same i j m [] here there = sym here ∙ there
  leads_same i j m (d ∷ ds) here there = leads_same (arc_of network d).to j m ds here.1 there.1

  -- where the decisions lead on, the one at a place leaves where those before it arrive
  pub leads_at : (i j m : ℕ) (ds : List Decision) (k : ℕ) (d : Decision) → k < length ds → LeadsBy network i ds j → LeadsBy network i (take k ds) m
      → (arc_of network (get_or ds k d)).from ≡ m
  leads_at i j m [] k d below leads before = absurd (omega (arith, below))
  leads_at i j m (e ∷ ds) zero d below leads before = leads.0 ∙ before
  leads_at i j m (e ∷ ds) (suc k) d below leads before = leads_at (arc_of network e).to j m ds k d (omega (arith, below)) leads.1 before.1

  leads_meet : (s at j : ℕ) (es : List Decision) (d : Decision) → LeadsBy network s es at → LeadsBy network s (es ++ d ∷ []) j → (arc_of network d).from ≡ at
  leads_meet s at j [] d here there = there.0 ∙ here
  leads_meet s at j (e ∷ es) d here there = leads_meet (arc_of network e).to at j es d here.1 there.1

  -- where the decisions lead on with one more, that leaves where those before it arrive
  pub meets : (start at i j : ℕ) (ds : List Decision) (k : ℕ) (d x : Decision) → k < length ds → get_or ds k x ≡ d
      → start ≡ (arc_of network (get_or ds 0 x)).from → LeadsBy network start (take k ds) at → LeadsBy network i (take k ds ++ d ∷ []) j
      → (arc_of network d).from ≡ at
  meets start at i j [] k d x below is first here there = absurd (omega (arith, below))
  meets start at i j (e ∷ es) zero d x below is first here there = ap (λ y. (arc_of network y).from) (sym is) ∙ sym first ∙ here
  meets start at i j (e ∷ es) (suc k) d x below is first here there = leads_meet (arc_of network e).to at j (take k es) d here.1 there.1

  pub weight_more : (ds : List Decision) (d : Decision) → weight_by network (ds ++ d ∷ []) ≡ weight_by network ds +ℤ (arc_of network d).weight
  unfolding weight_by
  weight_more [] d = omega (arith, ints)
  weight_more (e ∷ ds) d = let more = weight_more ds d in omega (arith, ints, more)

  pub weight_none : weight_by network [] ≡ pos 0
  unfolding weight_by
  weight_none = refl

-- ---- what is left of a clause

open_more : (view : View) (facts : List ModelFact) (fact : ModelFact)
    → left_open view (facts ++ fact ∷ []) ≡ left_open view facts ++ left_open view (fact ∷ [])
unfolding left_open
open_more view facts fact = filter-append (λ f. not (contradicts view f)) facts (fact ∷ [])

open_one : (view : View) (fact : ModelFact) → contradicts view fact ≡ false → left_open view (fact ∷ []) ≡ fact ∷ []
unfolding left_open
open_one view fact told = rw told refl

open_none : (view : View) (fact : ModelFact) → contradicts view fact ≡ true → left_open view (fact ∷ []) ≡ []
unfolding left_open
open_none view fact told = rw told refl

-- the walk over the first k decisions
pub record IsWalked (network : Network) (view : View) (start : ℕ) (ds : List Decision) (k at : ℕ) (weight : ℤ) : Type 0 where
  pub all : All (Contains view.orders) (take k ds)
  pub leads : LeadsBy network start (take k ds) at
  pub weighs : weight ≡ weight_by network (take k ds)
  pub low : pos 0 ≤ℤ (weight +ℤ pos (k * 1210000000))
  pub high : weight ≤ℤ pos (k * 1210000000)

-- one more fact of a clause
module _ (view : View) (clause : List Fact) (k : ℕ) (d : Fact) (below : k < length clause) where
  open_step : left_open view (clause_of (take (k + 1) clause)) ≡ left_open view (clause_of (take k clause)) ++ left_open view (fact_of (get_or clause k d) ∷ [])
  open_step = ap (left_open view) (map_more fact_of clause k d below) ∙ open_more view (clause_of (take k clause)) (fact_of (get_or clause k d))

  has_step : (fact : ModelFact) → Contains (clause_of (take k clause)) fact → Contains (clause_of (take (k + 1) clause)) fact
  has_step fact has = subst (λ facts. Contains facts fact) (sym (map_more fact_of clause k d below))
      (Contains-append_left (clause_of (take k clause)) (fact_of (get_or clause k d) ∷ []) fact has)

  pub unit_skip : (n : ℕ) (left : Option Fact) → contradicts view (fact_of (get_or clause k d)) ≡ true
      → FindsUnit view n (clause_of (take k clause)) (Ok left) → FindsUnit view n (clause_of (take (k + 1) clause)) (Ok left)
  unit_skip n None told found = open_step ∙ (λ i. found i ++ open_none view (fact_of (get_or clause k d)) told i)
  unit_skip n (Some fact) told found =
      (open_step ∙ (λ i. found.0 i ++ open_none view (fact_of (get_or clause k d)) told i), has_step (fact_of fact) found.1)

  pub unit_first : (n : ℕ) (left : Option Fact) → is_some left ≡ false → contradicts view (fact_of (get_or clause k d)) ≡ false
      → FindsUnit view n (clause_of (take k clause)) (Ok left) → FindsUnit view n (clause_of (take (k + 1) clause)) (Ok (Some (get_or clause k d)))
  unit_first n None none told found = (
    open_step ∙ (λ i. found i ++ open_one view (fact_of (get_or clause k d)) told i),
    subst (λ facts. Contains facts (fact_of (get_or clause k d))) (sym (map_more fact_of clause k d below))
        (Contains-push (clause_of (take k clause)) (fact_of (get_or clause k d))),
  )
  unit_first n (Some fact) some told found = absurd (true≢false some)

  pub unit_two : (n : ℕ) (left : Option Fact) → is_some left ≡ true → contradicts view (fact_of (get_or clause k d)) ≡ false
      → FindsUnit view n (clause_of (take k clause)) (Ok left) → 1 < length (left_open view (clause_of clause))
  unfolding left_open
  unit_two n None some told found = absurd (true≢false (sym some))
  unit_two n (Some fact) some told found =
      let front : left_open view (clause_of (take (k + 1) clause)) ≡ fact_of fact ∷ fact_of (get_or clause k d) ∷ [] =
      open_step ∙ (λ i. found.0 i ++ open_one view (fact_of (get_or clause k d)) told i) in
      let whole : clause_of (take (k + 1) clause) ++ clause_of (drop (k + 1) clause) ≡ clause_of clause =
      sym (map-append fact_of (take (k + 1) clause) (drop (k + 1) clause)) ∙ ap clause_of (take-append-drop (k + 1) clause) in
      let parts : left_open view (clause_of clause) ≡ left_open view (clause_of (take (k + 1) clause)) ++ left_open view (clause_of (drop (k + 1) clause)) =
      ap (left_open view) (sym whole) ∙ filter-append (λ f. not (contradicts view f)) (clause_of (take (k + 1) clause)) (clause_of (drop (k + 1) clause)) in
      let long = ap length parts ∙ length-append (left_open view (clause_of (take (k + 1) clause))) (left_open view (clause_of (drop (k + 1) clause))) in
      let two = ap length front in
      omega (arith, long, two)

  pub count_skip : contradicts view (fact_of (get_or clause k d)) ≡ true
      → length (left_open view (clause_of (take (k + 1) clause))) ≡ length (left_open view (clause_of (take k clause)))
  count_skip told =
      let parts = ap length open_step ∙ length-append (left_open view (clause_of (take k clause))) (left_open view (fact_of (get_or clause k d) ∷ [])) in
      let none = ap length (open_none view (fact_of (get_or clause k d)) told) in
      omega (arith, parts, none)

  pub count_more : contradicts view (fact_of (get_or clause k d)) ≡ false
      → length (left_open view (clause_of (take (k + 1) clause))) ≡ length (left_open view (clause_of (take k clause))) + 1
  count_more told =
      let parts = ap length open_step ∙ length-append (left_open view (clause_of (take k clause))) (left_open view (fact_of (get_or clause k d) ∷ [])) in
      let one = ap length (open_one view (fact_of (get_or clause k d)) told) in
      omega (arith, parts, one)

-- the orders of a round
module _ (network : Network) (view : View) (orders : List Order) (blank : Order) where
  at_place : (k : ℕ) (decision : Decision) → k < length orders → decision ≡ decision_of (get_or orders k blank)
      → get_or (map decision_of orders) k (decision_of blank) ≡ decision
  at_place k decision below is = get_or-map decision_of orders k blank (decision_of blank) below ∙ sym is

  in_map : (k : ℕ) → k < length orders → k < length (map decision_of orders)
  in_map k below = subst (λ n. k < n) (sym (length-map orders decision_of)) below

  pub arc_leads : (i j m k : ℕ) (decision : Decision) (arc : Arc) → k < length orders → decision ≡ decision_of (get_or orders k blank)
      → arc ≡ arc_of network decision → LeadsBy network i (map decision_of orders) j → LeadsBy network i (take k (map decision_of orders)) m → arc.from ≡ m
  arc_leads i j m k decision arc below is is_arc leads before =
      ap (λ (a : Arc). a.from) (is_arc ∙ ap (arc_of network) (sym (at_place k decision below is)))
      ∙ leads_at network i j m (map decision_of orders) k (decision_of blank) (in_map k below) leads before

  pub walk_none : (start : ℕ) → IsWalked network view start (map decision_of orders) 0 start (pos 0)
  walk_none start = record {
    all = All-nil (Contains view.orders);
    leads = refl;
    weighs = sym (weight_none network);
    low = omega (arith, ints);
    high = omega (arith, ints);
  }

  pub walk_more : (start k at : ℕ) (weight more : ℤ) (decision : Decision) (arc : Arc) → k < length orders → decision ≡ decision_of (get_or orders k blank)
      → IsArcIn network view decision arc → arc.from ≡ at → more ≡ weight +ℤ arc.weight
      → IsWalked network view start (map decision_of orders) k at weight → IsWalked network view start (map decision_of orders) (k + 1) arc.to more
  walk_more start k at weight more decision arc below is in_view meets adds walked =
      let ds = map decision_of orders in
      let longer : take (k + 1) ds ≡ take k ds ++ decision ∷ [] =
      take_more ds k (decision_of blank) (in_map k below) ∙ ap (λ d. take k ds ++ d ∷ []) (at_place k decision below is) in
      let low = walked.low in
      let high = walked.high in
      let arc_low = in_view.low in
      let arc_high = in_view.high in
      record {
        all = subst (All (Contains view.orders)) (sym longer) (All-push (Contains view.orders) (take k ds) decision walked.all in_view.has);
        leads = subst (λ list. LeadsBy network start list arc.to) (sym longer) (subst (LeadsBy network start (take k ds ++ decision ∷ []))
            (sym (ap (λ (a : Arc). a.to) in_view.is))
            (leads_more network start at (take k ds) decision walked.leads (ap (λ (a : Arc). a.from) (sym in_view.is) ∙ meets)));
        weighs = adds ∙ (λ i. walked.weighs i +ℤ (in_view.is i).weight) ∙ sym (weight_more network (take k ds) decision) ∙ ap (weight_by network) (sym longer);
        low = omega (arith, ints, low, arc_low, adds);
        high = omega (arith, ints, high, arc_high, adds);
      }

  pub walk_done : (start k at : ℕ) (weight : ℤ) → length orders ≤ k → IsWalked network view start (map decision_of orders) k at weight
      → All (Contains view.orders) (map decision_of orders) × LeadsBy network start (map decision_of orders) at
      × (weight ≡ weight_by network (map decision_of orders))
  walk_done start k at weight past walked =
      let whole = take_all k (map decision_of orders) (subst (λ n. n ≤ k) (sym (length-map orders decision_of)) past) in (
        subst (All (Contains view.orders)) whole walked.all,
        subst (λ list. LeadsBy network start list at) whole walked.leads,
        walked.weighs ∙ ap (weight_by network) whole,
      )

  -- the first decision that is wrong
  pub order_wrong : (start k at : ℕ) (weight : ℤ) (decision : Decision) (wrong : Wrong) → k < length orders → decision ≡ decision_of (get_or orders k blank)
      → IsWrongOrder network view (take k (map decision_of orders)) decision wrong
      → IsWalked network view start (map decision_of orders) k at weight → IsUnclosed network view (map decision_of orders) wrong
  order_wrong start k at weight decision wrong below is wrong_there walked = inl (record {
    k = k;
    there = decision;
    right_before = (walked.all, (start, at, walked.leads));
    at = slice_get-get_or (map decision_of orders) k (decision_of blank) (in_map k below) ∙ ap Some (at_place k decision below is);
    wrong = wrong_there;
  })

  pub order_apart : (k at : ℕ) (weight : ℤ) (first decision : Decision) (begin arc : Arc) → k < length orders
      → first ≡ decision_of (get_or orders 0 blank) → decision ≡ decision_of (get_or orders k blank) → begin ≡ arc_of network first
      → IsArcIn network view decision arc → (arc.from ≡ at → ⊥)
      → IsWalked network view begin.from (map decision_of orders) k at weight → IsUnclosed network view (map decision_of orders) NotClosed
  order_apart k at weight first decision begin arc below first_is is begin_is in_view apart walked =
      let ds = map decision_of orders in
      let begins : begin.from ≡ (arc_of network (get_or ds 0 (decision_of blank))).from =
      ap (λ (a : Arc). a.from) (begin_is ∙ ap (arc_of network) (sym (at_place 0 first (omega (arith, below)) first_is))) in
      order_wrong begin.from k at weight decision NotClosed below is (inr (
        refl,
        in_view.has,
        λ lead. apart (ap (λ (a : Arc). a.from) in_view.is
            ∙ meets network begin.from at lead.1.0 lead.1.1 ds k decision (decision_of blank) (in_map k below) (at_place k decision below is) begins
            walked.leads lead.1.2),
      )) walked

-- ---- what a move shows

pub one_fact : (network : Network) (facts : List ModelFact) (fact : ModelFact) → facts ≡ fact ∷ [] → IsFact network fact → All (IsFact network) facts
one_fact network facts fact is there = subst (All (IsFact network)) (sym is) (All-cons (IsFact network) fact [] there (All-nil (IsFact network)))

pub two_facts : (network : Network) (first second : ModelFact) → IsFact network first → IsFact network second → All (IsFact network) (first ∷ second ∷ [])
two_facts network first second one other =
    All-cons (IsFact network) first (second ∷ []) one (All-cons (IsFact network) second [] other (All-nil (IsFact network)))

-- the clause of a number
module _ (clauses : List (Bor (List Fact))) (k : ℕ) (clause : Bor (List Fact)) (below : k < length clauses) (is : clause ≡ get_or clauses k clause) where
  pub clause_there : clause_at (clauses_of clauses) k ≡ clause_of clause.now
  clause_there =
      get_or-map (λ (each : Bor (List Fact)). clause_of each.now) clauses k clause [] below
      ∙ ap (λ (each : Bor (List Fact)). clause_of each.now) (sym is)

pub clause_facts : (network : Network) (clauses : List (Bor (List Fact))) (k : ℕ) (clause : Bor (List Fact)) → k < length clauses
    → clause ≡ get_or clauses k clause
    → All (All (IsFact network)) (clauses_of clauses) → All (IsFact network) (clause_of clause.now)
clause_facts network clauses k clause below is all =
    subst (λ (each : Bor (List Fact)). All (IsFact network) (clause_of each.now)) (sym is)
    (All-unmap (All (IsFact network)) (λ (each : Bor (List Fact)). clause_of each.now) clauses all k clause below)

pub few_open : (view : View) (clause : List ModelFact) (fact : ModelFact) → left_open view clause ≡ fact ∷ [] → length (left_open view clause) ≤ 1
few_open view clause fact is = let one = ap length is in omega (arith, one)

module _ (network : Network) (clauses : List (List ModelFact)) (view : View) (k : ℕ) (facts : List ModelFact) where
  pub use_shown : (fact : ModelFact) → facts ≡ fact ∷ [] → left_open view (clause_at clauses k) ≡ fact ∷ [] → facts ≡ shown network clauses view (apply k)
  unfolding shown unit_of
  use_shown fact is found = is ∙ ap (λ left. unit_of view left ∷ []) (sym found)

  pub use_refutes : facts ≡ refuting view ∷ [] → left_open view (clause_at clauses k) ≡ [] → facts ≡ shown network clauses view (apply k)
  unfolding shown unit_of
  use_refutes is found = is ∙ ap (λ left. unit_of view left ∷ []) (sym found)
