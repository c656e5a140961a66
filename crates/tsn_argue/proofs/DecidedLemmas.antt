-- The set of decisions beside their list.
--     equal, equal-true, equal-refl     the test by which decisions are compared
--     told                              what the set tells of the list
--     held_more, held_back, held_kept   the set and the list with one decision more, back at the ground, and with the view as the ground
use Rattle.std.proofs.Common.{rules, ◌≡◌, ◌⊎◌, ℕ, ◌≤◌, List, [], ◌∷◌, ◌++◌, length, take, Bool, true, false, nat_eq, ◌&&◌, ◌||◌, Contains, refl, sym, ap, ◌∙◌, subst, inl, inr, arith}
use Rattle.std.specs.Prelude.{MatchBool, if◌then◌else◌}
use Rattle.std.specs.List.{list_any}
use Rattle.std.specs.Ordering.{int_eq}
use Rattle.std.proofs.lemmas.Bool.Decides.{Decides-int_eq}
use Rattle.std.proofs.lemmas.Bool.{and_parts, and_from, eqb-true, eq-eqb}
use Rattle.std.proofs.lemmas.List.{length-append, take-append-le, take-take, take_all, length-take-le}
use Rattle.std.proofs.lemmas.List.Elements.{Contains-append_left, Contains-push, Contains-push_cases}
use Rattle.std.proofs.lemmas.Map.Views.{Contains-from_any}
use Rattle.indexmap.specs.IndexSet.{insert_key}
use denote.Enum.Bare.{sameb, same_true, true_same}
use Rattle.tsn_model.specs.contracts.Side.{the_type}
use Rattle.tsn_model.specs.declared.Decision.{Decision}
use Rattle.tsn_model.specs.declared.Side.{Side}
use Rattle.tsn_model.proofs.Lists.{Contains-nil, Contains-cons_cases}
use Rattle.tsn_argue.specs.Decided.{HaveSame, AreHeld}

-- ---- the test

-- the test of two decisions for equality
abbrev pub equal : Decision → Decision → Bool
equal a b =
    (nat_eq a.triple.left b.triple.left && (nat_eq a.triple.right b.triple.right && (nat_eq a.triple.link b.triple.link && int_eq a.triple.lag b.triple.lag)))
    && sameb the_type a.side b.side

side_same : (a b : Side) → sameb the_type a b ≡ true → a ≡ b
side_same a b same = same_true the_type (search rules) a b same

equal-true : (a b : Decision) → equal a b ≡ true → a ≡ b
equal-true a b same =
    let links = nat_eq a.triple.link b.triple.link && int_eq a.triple.lag b.triple.lag in
    let triples = nat_eq a.triple.left b.triple.left && (nat_eq a.triple.right b.triple.right && links) in
    let both = and_parts triples (sameb the_type a.side b.side) same in
    let streams = and_parts (nat_eq a.triple.left b.triple.left) (nat_eq a.triple.right b.triple.right && links) both.0 in
    let rest = and_parts (nat_eq a.triple.right b.triple.right) links streams.1 in
    let last = and_parts (nat_eq a.triple.link b.triple.link) (int_eq a.triple.lag b.triple.lag) rest.1 in
    let left = eqb-true a.triple.left b.triple.left streams.0 in
    let right = eqb-true a.triple.right b.triple.right rest.0 in
    let link = eqb-true a.triple.link b.triple.link last.0 in
    let lag = (Decides-int_eq a.triple.lag b.triple.lag).0 last.1 in
    let side = side_same a.side b.side both.1 in
    λ i. record { triple = record { left = left i; right = right i; link = link i; lag = lag i }; side = side i }

equal-refl : (a : Decision) → equal a a ≡ true
equal-refl a =
    let lags = (Decides-int_eq a.triple.lag a.triple.lag).1 refl in
    let last = and_from (nat_eq a.triple.link a.triple.link) (int_eq a.triple.lag a.triple.lag) (eq-eqb _ _ refl) lags in
    let rest = and_from (nat_eq a.triple.right a.triple.right) _ (eq-eqb _ _ refl) last in
    and_from _ _ (and_from (nat_eq a.triple.left a.triple.left) _ (eq-eqb _ _ refl) rest) (true_same the_type a.side a.side refl)

or_right : (a : Bool) → (a || true) ≡ true
or_right true = refl
or_right false = refl

any_has : (list : List Decision) (d : Decision) → list_any (equal d) list ≡ true → Contains list d
any_has list d any = Contains-from_any {eq = equal} equal-true d list any

has_any : (list : List Decision) (d : Decision) → Contains list d → list_any (equal d) list ≡ true
has_any [] d has = absurd (Contains-nil d has)
has_any (x ∷ xs) d has = elim (Contains-cons_cases x xs d has) [
  | inl same ↦ ap (λ b. b || list_any (equal d) xs) (subst (λ y. equal d y ≡ true) (sym same) (equal-refl d))
  | inr more ↦ ap (λ b. equal d x || b) (has_any xs d more) ∙ or_right (equal d x)
]

tell : (P : Type 0) (b : Bool) → (b ≡ true → P) → (b ≡ false → P → ⊥) → MatchBool b P (P → ⊥)
tell P true if_true if_false = if_true refl
tell P false if_true if_false = if_false refl

-- the set tells whether the list has the decision
pub told : (list : List Decision) (kept : ℕ) (set : List Decision) (set_kept : ℕ) (d : Decision) (b : Bool) → AreHeld list kept set set_kept
    → b ≡ list_any (equal d) set → MatchBool b (Contains list d) (Contains list d → ⊥)
told list kept set set_kept d b held is =
    tell (Contains list d) b (λ passes. (held.all d).0 (any_has set d (sym is ∙ passes)))
    (λ fails has.
    let clash : false ≡ true = sym fails ∙ is ∙ has_any set d ((held.all d).1 has) in
    cc clash)

-- ---- one more decision

-- the set stays, since it has the decision, or has it behind the others
abbrev Grown : List Decision → Decision → List Decision → Type 0
Grown set d more = ((more ≡ set) × Contains set d) ⊎ (more ≡ set ++ d ∷ [])

grown : (set : List Decision) (d : Decision) → Grown set d (insert_key equal set d)
grown set d = by (list_any (equal d) set) refl
  where
    by : (b : Bool) → list_any (equal d) set ≡ b → Grown set d (insert_key equal set d)
    by true is = inl (ap (λ c. if c then set else set ++ d ∷ []) is, any_has set d is)
    by false is = inr (ap (λ c. if c then set else set ++ d ∷ []) is)

more_same : (list set : List Decision) (d : Decision) (more : List Decision) → HaveSame set list → Grown set d more → HaveSame more (list ++ d ∷ [])
more_same list set d more same (inl stays) x = (
  λ has. Contains-append_left list (d ∷ []) x ((same x).0 (subst (λ ks. Contains ks x) stays.0 has)),
  λ has. subst (λ ks. Contains ks x) (sym stays.0) (elim (Contains-push_cases list d x has) [
    | inl before ↦ (same x).1 before
    | inr is ↦ subst (Contains set) is stays.1
  ]),
)
more_same list set d more same (inr new) x = (
  λ has. elim (Contains-push_cases set d x (subst (λ ks. Contains ks x) new has)) [
    | inl before ↦ Contains-append_left list (d ∷ []) x ((same x).0 before)
    | inr is ↦ subst (Contains (list ++ d ∷ [])) is (Contains-push list d)
  ],
  λ has. subst (λ ks. Contains ks x) (sym new) (elim (Contains-push_cases list d x has) [
    | inl before ↦ Contains-append_left set (d ∷ []) x ((same x).1 before)
    | inr is ↦ subst (Contains (set ++ d ∷ [])) is (Contains-push set d)
  ]),
)

-- the first ones stay
first_stay : (set : List Decision) (d : Decision) (more : List Decision) (n : ℕ) → n ≤ length set → Grown set d more
    → (n ≤ length more) × (take n more ≡ take n set)
first_stay set d more n within (inl stays) = (subst (λ ks. n ≤ length ks) (sym stays.0) within, ap (take n) stays.0)
first_stay set d more n within (inr new) =
    let long = length-append set (d ∷ []) in
    (subst (λ ks. n ≤ length ks) (sym new) (omega (arith, long, within)), ap (take n) new ∙ take-append-le n set (d ∷ []) within)

pub held_more : (list : List Decision) (kept : ℕ) (set : List Decision) (set_kept : ℕ) (d : Decision) → AreHeld list kept set set_kept
    → AreHeld (list ++ d ∷ []) kept (insert_key equal set d) set_kept
held_more list kept set set_kept d held =
    let long = length-append list (d ∷ []) in
    let first = first_stay set d (insert_key equal set d) set_kept held.set_ground (grown set d) in
    record {
      ground = let within = held.ground in omega (arith, long, within);
      set_ground = first.0;
      all = more_same list set d (insert_key equal set d) held.all (grown set d);
      of_ground = rw (first.1, take-append-le kept list (d ∷ []) held.ground) held.of_ground;
    }

-- ---- the ground

pub held_back : (list : List Decision) (kept : ℕ) (set : List Decision) (set_kept : ℕ) → AreHeld list kept set set_kept
    → AreHeld (take kept list) kept (take set_kept set) set_kept
held_back list kept set set_kept held =
    let long = length-take-le kept list held.ground in
    let set_long = length-take-le set_kept set held.set_ground in
    record {
      ground = omega (arith, long);
      set_ground = omega (arith, set_long);
      all = held.of_ground;
      of_ground = rw (take-take kept kept list (omega arith), take-take set_kept set_kept set (omega arith)) held.of_ground;
    }

pub held_kept : (list : List Decision) (kept : ℕ) (set : List Decision) (set_kept : ℕ) → AreHeld list kept set set_kept
    → AreHeld list (length list) set (length set)
held_kept list kept set set_kept held = record {
  ground = omega arith;
  set_ground = omega arith;
  all = held.all;
  of_ground = rw (take_all (length list) list (omega arith), take_all (length set) set (omega arith)) held.all;
}
