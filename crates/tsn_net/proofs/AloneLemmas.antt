-- A route that is the only one has few steps, and without a name twice it enters each bridge once.
use Rattle.std.proofs.Common.{◌≡◌, ℕ, ◌+◌, ◌-◌, ◌≤◌, ◌⊎◌, Bool, true, false, not, cond, ◌&&◌, List, [], ◌∷◌, length, Contains, Option, Some, None, option_map, refl, ap, sym, ◌∙◌, subst, inl, inr, arith, append-nil}
use Rattle.std.specs.Prelude.{fold, option_and_then, nat_lt, is_none}
use Rattle.std.specs.List.{list_any, find}
use Rattle.std.specs.Option.{option_or}
use Rattle.std.specs.Str.{bytes_eq}
use Rattle.std.proofs.lemmas.Bool.{false≢true, or_parts, cond-true, cond-false}
use Rattle.std.proofs.lemmas.Bool.Decides.{nat_tests}
use Rattle.std.proofs.lemmas.List.{length_push}
use Rattle.std.proofs.lemmas.List.Elements.{Contains-push_cases}
use Rattle.std.proofs.lemmas.Slice.Eq.{bytes_eq-Decides}
use Rattle.toml.specs.Data.{Data}
use Rattle.tsn_model.proofs.Lists.{Contains-head, Contains-more, Contains-cons_cases, Contains-nil}
use Rattle.tsn_net.specs.Conditions.{is_step, with_step, is_long, few, different, meet, meeting, neighbours, steps_of, begin_of, other_talker, second_entry, given_again, repeats, is_no_way, runs_between_stations, names_bridge}
use Rattle.tsn_net.proofs.StepLemmas.{bool_cases, few-short}

-- ---- how many steps there are

one_more : (steps : List (List ℕ × List ℕ)) (p : List ℕ × List ℕ) → length (with_step steps p) ≤ length steps + 1
one_more steps p = elim (bool_cases (is_step p steps)) [
  | inl there ↦ subst (λ ps. length ps ≤ length steps + 1) (sym (cond-true _ _ _ there)) (omega arith)
  | inr new ↦ subst (λ ps. length ps ≤ length steps + 1) (sym (cond-false _ _ _ new)) (let long = length_push steps p in omega arith)
]

no_more : (steps more : List (List ℕ × List ℕ)) → length (fold with_step steps more) ≤ length steps + length more
no_more steps [] = omega arith
no_more steps (p ∷ more) = let first = one_more steps p in let rest = no_more (with_step steps p) more in omega arith

fewer : (xs : List (List ℕ)) → length (neighbours xs) ≤ length xs - 1
fewer [] = omega arith
fewer (x ∷ []) = omega arith
fewer (x ∷ y ∷ xs) = let rest = fewer (y ∷ xs) in omega arith

alone_few : (route : List (List ℕ)) → length route ≤ 65 → is_none (few (different (steps_of (route ∷ [])))) ≡ false
alone_few route short =
    let steps = fewer route in
    let most = no_more [] (neighbours route) in
    ap (λ ps. is_none (few (different ps))) (append-nil (neighbours route)) ∙ ap is_none (few-short (different (neighbours route)) (omega arith))

-- ---- which bridges they enter

ends_later : (x : List ℕ) (xs : List (List ℕ)) (p : List ℕ × List ℕ) → Contains (neighbours (x ∷ xs)) p → Contains xs p.1
ends_later x [] p has = absurd (Contains-nil p has)
ends_later x (y ∷ xs) p has = elim (Contains-cons_cases (x, y) (neighbours (y ∷ xs)) p has) [
  | inl here ↦ subst (Contains (y ∷ xs)) (ap (λ (q : List ℕ × List ℕ). q.1) here) (Contains-head y xs)
  | inr later ↦ Contains-more y xs p.1 (ends_later y xs p later)
]

not_among : (x : List ℕ) (xs : List (List ℕ)) → list_any (bytes_eq x) xs ≡ false → Contains xs x → ⊥
not_among x [] none has = Contains-nil x has
not_among x (y ∷ xs) none has =
    let parts = or_parts (bytes_eq x y) (list_any (bytes_eq x) xs) none in
    elim (Contains-cons_cases y xs x has) [
      | inl same ↦ false≢true (sym parts.0 ∙ (bytes_eq-Decides x y).1 (sym same))
      | inr later ↦ not_among x xs parts.1 later
    ]

-- two steps that end at one node begin at one
begin_alike : (xs : List (List ℕ)) (p q : List ℕ × List ℕ) → repeats xs ≡ false → Contains (neighbours xs) p → Contains (neighbours xs) q
    → q.1 ≡ p.1 → q.0 ≡ p.0
begin_alike [] p q once p_has q_has same = absurd (Contains-nil p p_has)
begin_alike (x ∷ []) p q once p_has q_has same = absurd (Contains-nil p p_has)
begin_alike (x ∷ y ∷ xs) p q once p_has q_has same =
    let parts = or_parts (list_any (bytes_eq x) (y ∷ xs)) (repeats (y ∷ xs)) once in
    let apart = (or_parts (list_any (bytes_eq y) xs) (repeats xs) parts.1).0 in
    elim (Contains-cons_cases (x, y) (neighbours (y ∷ xs)) p p_has) [
      | inl p_here ↦ elim (Contains-cons_cases (x, y) (neighbours (y ∷ xs)) q q_has) [
        | inl q_here ↦ ap (λ (s : List ℕ × List ℕ). s.0) (sym q_here ∙ p_here)
        | inr q_later ↦
            let at : q.1 ≡ y = same ∙ ap (λ (s : List ℕ × List ℕ). s.1) (sym p_here) in
            absurd (not_among y xs apart (subst (Contains xs) at (ends_later y xs q q_later)))
      ]
      | inr p_later ↦ elim (Contains-cons_cases (x, y) (neighbours (y ∷ xs)) q q_has) [
        | inl q_here ↦
            let at : p.1 ≡ y = sym same ∙ ap (λ (s : List ℕ × List ℕ). s.1) (sym q_here) in
            absurd (not_among y xs apart (subst (Contains xs) at (ends_later y xs p p_later)))
        | inr q_later ↦ begin_alike (y ∷ xs) p q parts.1 p_later q_later same
      ]
    ]

meets_none : (xs : List (List ℕ)) (p q : List ℕ × List ℕ) → repeats xs ≡ false → Contains (neighbours xs) p → Contains (neighbours xs) q
    → meet p q ≡ false
meets_none xs p q once p_has q_has = elim (bool_cases (bytes_eq q.1 p.1)) [
  | inl ends ↦
      let same = begin_alike xs p q once p_has q_has ((bytes_eq-Decides q.1 p.1).0 ends) in
      let begins : bytes_eq q.0 p.0 ≡ true = (bytes_eq-Decides q.0 p.0).1 same in
      ap (λ b. b && not (bytes_eq q.0 p.0)) ends ∙ ap not begins
  | inr differ ↦ ap (λ b. b && not (bytes_eq q.0 p.0)) differ
]

-- each of the different steps is one of the steps
with_from : (steps : List (List ℕ × List ℕ)) (p q : List ℕ × List ℕ) → Contains (with_step steps p) q → Contains steps q ⊎ (p ≡ q)
with_from steps p q has = elim (bool_cases (is_step p steps)) [
  | inl there ↦ inl (subst (λ ps. Contains ps q) (cond-true _ _ _ there) has)
  | inr new ↦ Contains-push_cases steps p q (subst (λ ps. Contains ps q) (cond-false _ _ _ new) has)
]

fold_from : (steps more : List (List ℕ × List ℕ)) (q : List ℕ × List ℕ) → Contains (fold with_step steps more) q → Contains steps q ⊎ Contains more q
fold_from steps [] q has = inl has
fold_from steps (p ∷ more) q has = elim (fold_from (with_step steps p) more q has) [
  | inl early ↦ elim (with_from steps p q early) [
    | inl before ↦ inl before
    | inr same ↦ inr (subst (Contains (p ∷ more)) same (Contains-head p more))
  ]
  | inr later ↦ inr (Contains-more p more q later)
]

different_from : (steps : List (List ℕ × List ℕ)) (q : List ℕ × List ℕ) → Contains (different steps) q → Contains steps q
different_from steps q has = elim (fold_from [] steps q has) [ inl none ↦ absurd (Contains-nil q none) | inr there ↦ there ]

none_found : {X : Type 0} (test : X → Bool) (xs : List X) → ((x : X) → Contains xs x → test x ≡ false) → find test xs ≡ None
none_found test [] none = refl
none_found test (x ∷ xs) none = cond-false _ _ _ (none x (Contains-head x xs)) ∙ none_found test xs (λ y has. none y (Contains-more x xs y has))

first_none : {X Y : Type 0} (bridge : Bool) (f : X → Y) (found : Option X) → found ≡ None → cond bridge (option_map f found) None ≡ None
first_none true f found none = ap (option_map f) none
first_none false f found none = refl

none_meet : (nodes : List Data) (steps : List (List ℕ × List ℕ))
    → ((p q : List ℕ × List ℕ) → Contains steps p → Contains steps q → meet p q ≡ false) → meeting nodes steps ≡ None
none_meet nodes [] none = refl
none_meet nodes (p ∷ steps) none =
    let alone = none_found (meet p) steps (λ q has. none p q (Contains-head p steps) (Contains-more p steps q has)) in
    let rest = none_meet nodes steps (λ q r q_has r_has. none q r (Contains-more p steps q q_has) (Contains-more p steps r r_has)) in
    let first = first_none (names_bridge nodes p.1) (λ (q : List ℕ × List ℕ). (p.1, p.0, q.0)) (find (meet p) steps) alone in
    ap (λ found. option_or found (meeting nodes steps)) first ∙ rest

few_none : {X : Type 0} (many : Bool) (test : List (List ℕ × List ℕ) → Option X) (steps : List (List ℕ × List ℕ)) → test steps ≡ None
    → option_and_then test (cond many None (Some steps)) ≡ None
few_none true test steps none = refl
few_none false test steps none = none

none_entered : (nodes : List Data) (route : List (List ℕ)) → repeats route ≡ false → second_entry nodes (route ∷ []) ≡ None
none_entered nodes route once =
    let steps = different (neighbours route) in
    ap (λ ps. option_and_then (meeting nodes) (few (different ps))) (append-nil (neighbours route))
    ∙ few_none (nat_lt 64 (length steps)) (meeting nodes) steps
    (none_meet nodes steps
    (λ p q p_has q_has. meets_none route p q once (different_from (neighbours route) p p_has) (different_from (neighbours route) q q_has)))

none_begins : (route : List (List ℕ)) → other_talker (route ∷ []) ≡ None
none_begins route =
    let same : bytes_eq (begin_of route) (begin_of route) ≡ true = (bytes_eq-Decides (begin_of route) (begin_of route)).1 refl in
    ap (option_map begin_of) (cond-false _ _ _ (ap not same))

-- a route that is the only one fits itself
pub alone_fits : (nodes : List Data) (routes : List (List (List ℕ))) → length routes ≡ 1 → list_any (is_no_way nodes) routes ≡ false
    → (other_talker routes ≡ None) × (second_entry nodes routes ≡ None) × (given_again routes ≡ None)
alone_fits nodes [] one way = absurd (omega arith)
alone_fits nodes (route ∷ []) one way =
    let parts = or_parts (is_no_way nodes route) false way in
    let once = or_parts (repeats route) (not (runs_between_stations nodes route)) parts.0 in
    (none_begins route, none_entered nodes route once.0, refl)
alone_fits nodes (route ∷ other ∷ routes) one way = absurd (omega arith)

pub alone_short : (routes : List (List (List ℕ))) → length routes ≡ 1 → list_any is_long routes ≡ false
    → is_none (few (different (steps_of routes))) ≡ false
alone_short [] one short = absurd (omega arith)
alone_short (route ∷ []) one short =
    let parts = or_parts (is_long route) false short in
    alone_few route (let fits : nat_lt 65 (length route) ≡ false = parts.0 in grind (arith, nat_tests))
alone_short (route ∷ other ∷ routes) one short = absurd (omega arith)
