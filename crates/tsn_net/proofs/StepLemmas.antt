-- Steps of routes, each once, and bridges that two of them enter.
use Rattle.std.proofs.Common.{◌≡◌, ℕ, suc, ◌+◌, ◌<◌, ◌≤◌, ◌⊎◌, Bool, true, false, not, cond, ◌&&◌, List, [], ◌∷◌, ◌++◌, length, get_or, drop, Contains, Some, None, option_map, refl, ap, sym, ◌∙◌, subst, inl, inr, arith}
use Rattle.std.specs.Prelude.{fold, nat_lt, is_none, option_and_then, ◌==◌}
use Rattle.std.specs.List.{find}
use Rattle.std.specs.Str.{bytes_eq}
use Rattle.std.proofs.lemmas.Bool.{false≢true, true≢false, and_parts, cond-true, cond-false}
use Rattle.std.proofs.lemmas.Bool.Decides.{nat_tests}
use Rattle.std.proofs.lemmas.List.{length_push, drop_more}
use Rattle.std.proofs.lemmas.List.Elements.{Contains-append_left, Contains-append_right}
use Rattle.std.proofs.lemmas.Option.{none-some, same_Some}
use Rattle.std.proofs.lemmas.Slice.Eq.{bytes_eq-Decides}
use Rattle.toml.specs.Data.{Data}
use Rattle.tsn_model.proofs.Lists.{Contains-head, Contains-more, Contains-cons_cases, Contains-nil}
use Rattle.tsn_net.specs.Conditions.{is_step, with_step, few, different, meet, meeting, steps_of, second_entry, names_bridge, is_same}
use Rattle.tsn_net.proofs.Faultless.{map_none, or_none, cond_none}
use Rattle.tsn_net.proofs.Found.{or_cases}

pub bool_cases : (b : Bool) → (b ≡ true) ⊎ (b ≡ false)
bool_cases true = inl refl
bool_cases false = inr refl

-- ---- how many steps there are

one_more : (steps : List (List ℕ × List ℕ)) (p : List ℕ × List ℕ) → length steps ≤ length (with_step steps p)
one_more steps p = elim (bool_cases (is_step p steps)) [
  | inl there ↦ subst (λ ps. length steps ≤ length ps) (sym (cond-true _ _ _ there)) (omega arith)
  | inr new ↦ subst (λ ps. length steps ≤ length ps) (sym (cond-false _ _ _ new)) (let long = length_push steps p in omega arith)
]

pub grows : (steps more : List (List ℕ × List ℕ)) → length steps ≤ length (fold with_step steps more)
grows steps [] = omega arith
grows steps (p ∷ more) = let first = one_more steps p in let rest = grows (with_step steps p) more in omega arith

few_cases : (b : Bool) (xs : List (List ℕ × List ℕ)) → cond b None (Some xs) ≡ None → b ≡ true
few_cases true xs is = refl
few_cases false xs is = absurd (none-some xs (sym is))

pub few-none : (xs : List (List ℕ × List ℕ)) → few xs ≡ None → 64 < length xs
few-none xs is = let many = few_cases (nat_lt 64 (length xs)) xs is in grind (arith, nat_tests)

pub few-long : (xs : List (List ℕ × List ℕ)) → 64 < length xs → few xs ≡ None
few-long xs many = let long : nat_lt 64 (length xs) ≡ true = grind (arith, nat_tests) in rw long

pub few-short : (xs : List (List ℕ × List ℕ)) → length xs ≤ 64 → few xs ≡ Some xs
few-short xs short = let fits : nat_lt 64 (length xs) ≡ false = grind (arith, nat_tests) in rw fits

same_cases : (b : Bool) (xs ys : List (List ℕ × List ℕ)) → cond b None (Some xs) ≡ Some ys → xs ≡ ys
same_cases true xs ys is = absurd (none-some ys is)
same_cases false xs ys is = same_Some xs ys is

pub few-same : (xs ys : List (List ℕ × List ℕ)) → few xs ≡ Some ys → xs ≡ ys
few-same xs ys is = same_cases (nat_lt 64 (length xs)) xs ys is

kept_cases : (b : Bool) (xs : List (List ℕ × List ℕ)) → is_none (cond b None (Some xs)) ≡ false → b ≡ false
kept_cases true xs is = absurd (true≢false is)
kept_cases false xs is = refl

pub few-kept : (xs : List (List ℕ × List ℕ)) → is_none (few xs) ≡ false → length xs ≤ 64
few-kept xs is = let short = kept_cases (nat_lt 64 (length xs)) xs is in grind (arith, nat_tests)

pub few-fits : (xs ys : List (List ℕ × List ℕ)) → few xs ≡ Some ys → length ys ≤ 64
few-fits xs ys is = let same = few-same xs ys is in few-kept ys (ap is_none (ap few (sym same) ∙ is))

pub not_full : (n : ℕ) → (n == 64) ≡ false → n ≤ 64 → n + 1 ≤ 64
not_full n less most = grind (arith, nat_tests)

-- one more step, of which there is one already, which is new, and for which there is no room
module _ (steps more whole : List (List ℕ × List ℕ)) (p : List ℕ × List ℕ) (all : fold with_step steps (p ∷ more) ≡ whole) where
  pub step_there : is_step p steps ≡ true → fold with_step steps more ≡ whole
  step_there there = ap (λ xs. fold with_step xs more) (sym (cond-true _ _ _ there)) ∙ all

  pub step_new : is_step p steps ≡ false → fold with_step (steps ++ p ∷ []) more ≡ whole
  step_new new = ap (λ xs. fold with_step xs more) (sym (cond-false _ _ _ new)) ∙ all

  pub step_past : is_step p steps ≡ false → length steps ≡ 64 → None ≡ few whole
  step_past new full =
      let longer = grows (steps ++ p ∷ []) more in
      let long = length_push steps p in
      let same = ap length (step_new new) in
      sym (few-long whole (omega (arith, longer, long, same, full)))

-- ---- which steps there are

step_alike : (p q : List ℕ × List ℕ) → (bytes_eq q.0 p.0 && bytes_eq q.1 p.1) ≡ true → q ≡ p
step_alike p q alike =
    let parts = and_parts (bytes_eq q.0 p.0) (bytes_eq q.1 p.1) alike in
    let first = (bytes_eq-Decides q.0 p.0).0 parts.0 in
    let second = (bytes_eq-Decides q.1 p.1).0 parts.1 in
    λ i. (first i, second i)

step_found : (p : List ℕ × List ℕ) (steps : List (List ℕ × List ℕ)) → is_step p steps ≡ true → Contains steps p
step_found p [] found = absurd (false≢true found)
step_found p (q ∷ steps) found = elim (or_cases (bytes_eq q.0 p.0 && bytes_eq q.1 p.1) (is_step p steps) found) [
  | inl here ↦ subst (Contains (q ∷ steps)) (step_alike p q here) (Contains-head q steps)
  | inr later ↦ Contains-more q steps p (step_found p steps later)
]

-- the new step is there, and those that were
with_has : (steps : List (List ℕ × List ℕ)) (p : List ℕ × List ℕ) → Contains (with_step steps p) p
with_has steps p = elim (bool_cases (is_step p steps)) [
  | inl there ↦ subst (λ ps. Contains ps p) (sym (cond-true _ _ _ there)) (step_found p steps there)
  | inr new ↦ subst (λ ps. Contains ps p) (sym (cond-false _ _ _ new)) (Contains-append_right steps (p ∷ []) p (Contains-head p []))
]

with_keeps : (steps : List (List ℕ × List ℕ)) (p q : List ℕ × List ℕ) → Contains steps q → Contains (with_step steps p) q
with_keeps steps p q has = elim (bool_cases (is_step p steps)) [
  | inl there ↦ subst (λ ps. Contains ps q) (sym (cond-true _ _ _ there)) has
  | inr new ↦ subst (λ ps. Contains ps q) (sym (cond-false _ _ _ new)) (Contains-append_left steps (p ∷ []) q has)
]

fold_keeps : (steps more : List (List ℕ × List ℕ)) (q : List ℕ × List ℕ) → Contains steps q → Contains (fold with_step steps more) q
fold_keeps steps [] q has = has
fold_keeps steps (p ∷ more) q has = fold_keeps (with_step steps p) more q (with_keeps steps p q has)

fold_has : (steps more : List (List ℕ × List ℕ)) (q : List ℕ × List ℕ) → Contains more q → Contains (fold with_step steps more) q
fold_has steps [] q has = absurd (Contains-nil q has)
fold_has steps (p ∷ more) q has = elim (Contains-cons_cases p more q has) [
  | inl same ↦ fold_keeps (with_step steps p) more q (subst (Contains (with_step steps p)) same (with_has steps p))
  | inr later ↦ fold_has (with_step steps p) more q later
]

-- a step that is there is one of those that differ
pub different_has : (steps : List (List ℕ × List ℕ)) (p : List ℕ × List ℕ) → Contains steps p → Contains (different steps) p
different_has steps p has = fold_has [] steps p has

-- ---- bridges that two steps enter

-- what a test that finds nothing says of each element
pub none_has : {X : Type 0} (test : X → Bool) (xs : List X) (x : X) → find test xs ≡ None → Contains xs x → test x ≡ false
none_has test [] x none has = absurd (Contains-nil x has)
none_has test (y ∷ xs) x none has =
    let parts = cond_none (test y) y (find test xs) none in
    elim (Contains-cons_cases y xs x has) [
      | inl same ↦ subst (λ z. test z ≡ false) same parts.0
      | inr later ↦ none_has test xs x parts.1 later
    ]

-- two steps that end at one node and begin at two meet
meets : (p q : List ℕ × List ℕ) → q.1 ≡ p.1 → (q.0 ≡ p.0 → ⊥) → meet p q ≡ false → ⊥
meets p q same differ fails =
    let ends : bytes_eq q.1 p.1 ≡ true = (bytes_eq-Decides q.1 p.1).1 same in
    elim (bool_cases (bytes_eq q.0 p.0)) [
      | inl alike ↦ differ ((bytes_eq-Decides q.0 p.0).0 alike)
      | inr other ↦ true≢false (sym (ap (λ b. b && not (bytes_eq q.0 p.0)) ends ∙ ap not other) ∙ fails)
    ]

-- the bridge to which two steps lead, and where they begin
abbrev entry_of : List ℕ × List ℕ → List ℕ × List ℕ → List ℕ × List ℕ × List ℕ
entry_of p q = (p.1, p.0, q.0)

-- what stands behind a step to a bridge doesn't meet it
first_meets : (bridge : Bool) (nodes : List Data) (p : List ℕ × List ℕ) (steps : List (List ℕ × List ℕ)) → bridge ≡ true
    → cond bridge (option_map (entry_of p) (find (meet p) steps)) None ≡ None → find (meet p) steps ≡ None
first_meets bridge nodes p steps is none =
    map_none (entry_of p) (find (meet p) steps)
    (sym (cond-true _ _ _ is) ∙ none)

none_meets : (nodes : List Data) (steps : List (List ℕ × List ℕ)) (p q : List ℕ × List ℕ) → meeting nodes steps ≡ None
    → Contains steps p → Contains steps q → q.1 ≡ p.1 → (q.0 ≡ p.0 → ⊥) → names_bridge nodes p.1 ≡ true → ⊥
none_meets nodes [] p q none p_has q_has same differ bridge = Contains-nil p p_has
none_meets nodes (r ∷ steps) p q none p_has q_has same differ bridge =
    let parts = or_none (cond (names_bridge nodes r.1) (option_map (entry_of r) (find (meet r) steps)) None) (meeting nodes steps) none in
    elim (Contains-cons_cases r steps p p_has) [
      | inl p_here ↦ elim (Contains-cons_cases r steps q q_has) [
        | inl q_here ↦ differ (ap (λ (s : List ℕ × List ℕ). s.0) (sym q_here ∙ p_here))
        | inr q_later ↦
            let at : names_bridge nodes r.1 ≡ true = subst (λ (s : List ℕ × List ℕ). names_bridge nodes s.1 ≡ true) (sym p_here) bridge in
            let alone = first_meets (names_bridge nodes r.1) nodes r steps at parts.0 in
            let fails = none_has (meet r) steps q alone q_later in
            meets p q same differ (ap (λ s. meet s q) (sym p_here) ∙ fails)
      ]
      | inr p_later ↦ elim (Contains-cons_cases r steps q q_has) [
        | inl q_here ↦
            let at : names_bridge nodes r.1 ≡ true =
            ap (names_bridge nodes) (ap (λ (s : List ℕ × List ℕ). s.1) q_here ∙ same) ∙ bridge in
            let alone = first_meets (names_bridge nodes r.1) nodes r steps at parts.0 in
            let fails = none_has (meet r) steps p alone p_later in
            meets q p (sym same) (λ alike. differ (sym alike)) (ap (λ s. meet s p) (sym q_here) ∙ fails)
        | inr q_later ↦ none_meets nodes steps p q parts.1 p_later q_later same differ bridge
      ]
    ]

-- no two of few steps enter a bridge from different nodes
pub entered_once : (nodes : List Data) (routes : List (List (List ℕ))) (p q : List ℕ × List ℕ) → second_entry nodes routes ≡ None
    → length (different (steps_of routes)) ≤ 64 → Contains (steps_of routes) p → Contains (steps_of routes) q
    → q.1 ≡ p.1 → (q.0 ≡ p.0 → ⊥) → names_bridge nodes p.1 ≡ true → ⊥
entered_once nodes routes p q none short p_has q_has =
    let steps = different (steps_of routes) in
    none_meets nodes steps p q (sym (ap (option_and_then (meeting nodes)) (few-short steps short)) ∙ none)
    (different_has (steps_of routes) p p_has) (different_has (steps_of routes) q q_has)

-- ---- routes with the same names

and_fails : (a b : Bool) → b ≡ false → (a && b) ≡ false
and_fails true b fails = fails
and_fails false b fails = refl

pub same-lengths : (xs ys : List (List ℕ)) → (length xs ≡ length ys → ⊥) → is_same xs ys ≡ false
same-lengths [] [] differ = absurd (differ refl)
same-lengths [] (y ∷ ys) differ = refl
same-lengths (x ∷ xs) [] differ = refl
same-lengths (x ∷ xs) (y ∷ ys) differ = and_fails (bytes_eq x y) (is_same xs ys) (same-lengths xs ys (λ same. differ (ap suc same)))

pub same-at : (xs ys : List (List ℕ)) (k : ℕ) → k < length xs → k < length ys
    → is_same (drop k xs) (drop k ys) ≡ (bytes_eq (get_or xs k []) (get_or ys k []) && is_same (drop (k + 1) xs) (drop (k + 1) ys))
same-at xs ys k first second =
    let one = drop_more xs k [] first in
    let other = drop_more ys k [] second in
    λ j. is_same (one j) (other j)
