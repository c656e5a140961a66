-- The view before the first step, and which decisions it has.
use Rattle.std.proofs.Common.{◌≡◌, ◌⊎◌, ℕ, ◌<◌, ◌≤◌, ◌+◌, List, [], ◌∷◌, ◌++◌, map, length, pos, ◌≤ℤ◌, ◌<ℤ◌, Bool, true, false, Contains, refl, sym, ap, ◌∙◌, subst, inl, inr, arith, eq-eqb}
use Rattle.std.specs.Prelude.{MatchBool, nat_eq, ◌&&◌, ◌||◌}
use Rattle.std.specs.List.{range_with_len, list_any}
use Rattle.std.specs.Ordering.{int_eq}
use Rattle.std.proofs.lemmas.Bool.Decides.{Decides-int_eq}
use Rattle.std.proofs.lemmas.List.{map-append}
use Rattle.std.proofs.lemmas.List.FromFn.{length-map-range_with_len}
use Rattle.std.proofs.lemmas.Bool.{and_from, or_cases}
use Rattle.tsn_model.specs.declared.Decision.{Decision}
use Rattle.tsn_model.specs.Network.{Network, stream_count, release_of}
use Rattle.tsn_model.specs.Schedule.{IsValid, IsConflict, flowspan}
use Rattle.tsn_model.specs.Argument as model
use Rattle.tsn_model.specs.Argument.{IsImpossible, greatest_flowspan, first_ground}
use Rattle.tsn_model.specs.Schedule.{latest_offset}
use Rattle.tsn_model.proofs.ArgumentNumbers.{IsBounded-first}
use Rattle.tsn_argue.specs.State.{view_of, base_of, IsKept}
use Rattle.tsn_argue.specs.Steps.{AreCrossed, IsFirstView}
use Rattle.tsn_argue.specs.declared.view.View.{View}
use Rattle.tsn_argue.proofs.ViewLemmas.{Flag, flag_or, told_by}
use Rattle.std.proofs.lemmas.List.Elements.{All-nil}
use Rattle.tsn_model.specs.Search.{side_eq, decision_eq}
use Rattle.tsn_model.specs.declared.Side.{Side}
use Rattle.tsn_model.specs.declared.Side.TheVariants.{Left, Right}
use Rattle.tsn_model.proofs.Lists.{range_more, Contains-nil, Contains-head, Contains-more, Contains-cons_cases}
use Rattle.tsn_model.proofs.Schedules.{flowspan-le-cycle}
use Rattle.tsn_model.proofs.Paths.{decision_eq-true}

-- one element more of a list that a range is mapped to
pub mapped_more : {X : Type 0} (f : ℕ → X) (xs ys : List X) (x : X) (n : ℕ) → ys ≡ xs ++ x ∷ [] → x ≡ f n → xs ≡ map f (range_with_len 0 n)
    → ys ≡ map f (range_with_len 0 (n + 1))
mapped_more f xs ys x n pushed is before =
    pushed ∙ ap (λ zs. zs ++ x ∷ []) before ∙ ap (λ y. map f (range_with_len 0 n) ++ y ∷ []) is
    ∙ sym (map-append f (range_with_len 0 n) (n ∷ [])) ∙ ap (map f) (ap (λ m. range_with_len 0 n ++ m ∷ []) plus ∙ sym (range_more 0 n))
  where
    plus : n ≡ 0 + n
    plus = omega arith

-- a plan's flowspan is within the cycle
pub span_within : (network : Network) (plan : List ℕ) (span : ℕ) → IsValid network plan → span ≡ flowspan network plan → span ≤ network.cycle
span_within network plan span valid is = let within = flowspan-le-cycle network plan valid in omega arith

side_same : (a : Side) → side_eq a a ≡ true
unfolding side_eq
side_same Left = refl
side_same Right = refl

decision_same : (a : Decision) → decision_eq a a ≡ true
unfolding decision_eq
decision_same a =
    let left = nat_eq a.triple.left a.triple.left in
    let right = nat_eq a.triple.right a.triple.right in
    let link = nat_eq a.triple.link a.triple.link in
    let lag = int_eq a.triple.lag a.triple.lag in
    let streams = and_from left right (eq-eqb a.triple.left a.triple.left refl) (eq-eqb a.triple.right a.triple.right refl) in
    let links = and_from (left && right) link streams (eq-eqb a.triple.link a.triple.link refl) in
    let lags = and_from (left && right && link) lag links ((Decides-int_eq a.triple.lag a.triple.lag).1 refl) in
    and_from (left && right && link && lag) (side_eq a.side a.side) lags (side_same a.side)

or_right : (a : Bool) → (a || true) ≡ true
or_right true = refl
or_right false = refl

has_any : (list : List Decision) (d : Decision) → Contains list d → list_any (decision_eq d) list ≡ true
has_any [] d has = absurd (Contains-nil d has)
has_any (x ∷ xs) d has = elim (Contains-cons_cases x xs d has) [
  | inl same ↦ ap (λ b. b || list_any (decision_eq d) xs) (subst (λ y. decision_eq d y ≡ true) (sym same) (decision_same d))
  | inr more ↦ ap (λ b. decision_eq d x || b) (has_any xs d more) ∙ or_right (decision_eq d x)
]

any_has : (list : List Decision) (d : Decision) → list_any (decision_eq d) list ≡ true → Contains list d
any_has [] d any = absurd (cc)
any_has (x ∷ xs) d any = elim (or_cases (decision_eq d x) (list_any (decision_eq d) xs) any) [
  | inl is ↦ subst (λ y. Contains (y ∷ xs) d) (decision_eq-true d x is) (Contains-head d xs)
  | inr more ↦ Contains-more x xs d (any_has xs d more)
]

-- whether a decision is among others is what the test says
pub among : (list : List Decision) (d : Decision) (told : Bool) → MatchBool told (Contains list d) (Contains list d → ⊥) → told ≡ list_any (decision_eq d) list
among list d true has = sym (has_any list d has)
among list d false none = by_test (list_any (decision_eq d) list) refl
  where
    by_test : (b : Bool) → list_any (decision_eq d) list ≡ b → false ≡ list_any (decision_eq d) list
    by_test true is = absurd (none (any_has list d is))
    by_test false is = sym is

-- the view before the first step
pub first_view : (network : Network) (goal : model.Goal) (state : View) (crossed : Bool) → greatest_flowspan network goal ≤ℤ pos network.cycle
    → state.timing.now ≡ network
    → view_of state ≡ first_ground network goal → base_of state ≡ first_ground network goal → state.base_crossed ≡ state.crossed
    → MatchBool crossed (AreCrossed (first_ground network goal).low (first_ground network goal).high)
    (AreCrossed (first_ground network goal).low (first_ground network goal).high → ⊥)
    → MatchBool state.crossed ((crossed ≡ true) ⊎ ((first_ground network goal).done_high <ℤ (first_ground network goal).done_low))
    ((crossed ≡ false) × ((first_ground network goal).done_low ≤ℤ (first_ground network goal).done_high))
    → IsFirstView network goal state
unfolding first_ground
first_view network goal state crossed within timing view base flag lists told = record {
  sound = record {
    view = subst (λ n. IsKept n (view_of state)) (sym timing) (subst (IsKept network) (sym view) kept);
    base = subst (λ n. IsKept n (base_of state)) (sym timing) (subst (IsKept network) (sym base) kept);
    crossed = subst (λ n. Flag n (view_of state) state.crossed) (sym timing) (subst (λ v. Flag network v state.crossed) (sym view) known);
    base_crossed = subst (λ n. Flag n (base_of state) state.base_crossed) (sym timing)
        (subst (λ v. Flag network v state.base_crossed) (sym base) (subst (Flag network (first_ground network goal)) (sym flag) known));
  };
  same_network = timing;
  base = base;
  even = view ∙ sym base;
}
  where
    count : ℕ
    count = stream_count network

    lows_count : length (map (λ i. pos (release_of network i)) (range_with_len 0 (stream_count network))) ≡ stream_count network
    lows_count = length-map-range_with_len (λ i. pos (release_of network i)) 0 (stream_count network)

    kept : IsKept network (first_ground network goal)
    kept = record {
      lows = lows_count;
      highs = length-map-range_with_len (latest_offset network) 0 (stream_count network);
      bounded = IsBounded-first network goal within;
      conflicts = All-nil (λ (d : Decision). IsConflict network d.triple);
    }

    known : Flag network (first_ground network goal) state.crossed
    known = flag_or crossed state.crossed _ _ _ lists (told_by _ _ _ _ _ told (λ past. past) (λ past. past))
        (λ either. elim either [ inl are ↦ inl (are.0, subst (λ n. are.0 < n) lows_count are.1, are.2) | inr past ↦ inr past ])
        (λ impossible. elim impossible [ inl one ↦ inl (one.0, subst (λ n. one.0 < n) (sym lows_count) one.1, one.2) | inr past ↦ inr past ])
