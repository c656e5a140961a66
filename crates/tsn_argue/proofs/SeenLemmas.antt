-- Frames that were seen: the test by which they are compared, and what the set of them tells.
use Rattle.std.proofs.Common.{◌≡◌, List, [], ◌∷◌, ◌++◌, Bool, true, false, Contains, refl, sym, ap, ◌∙◌, subst, inl, inr, eqb-true, eq-eqb}
use Rattle.std.specs.Prelude.{MatchBool, nat_eq, ◌&&◌, ◌||◌, if◌then◌else◌}
use Rattle.std.specs.List.{list_any}
use Rattle.std.proofs.lemmas.Bool.{and_parts, and_from}
use Rattle.std.proofs.lemmas.Map.Views.{Contains-from_any}
use Rattle.indexmap.specs.IndexSet.{insert_key}
use Rattle.tsn_model.specs.declared.Frame.{Frame}
use Rattle.tsn_model.proofs.Lists.{Contains-nil, Contains-cons_cases}

-- the test of two frames for equality
abbrev pub equal : Frame → Frame → Bool
equal one other = nat_eq one.stream other.stream && nat_eq one.shift other.shift

equal-true : (one other : Frame) → equal one other ≡ true → one ≡ other
equal-true one other same =
    let parts = and_parts (nat_eq one.stream other.stream) (nat_eq one.shift other.shift) same in
    let streams = eqb-true one.stream other.stream parts.0 in
    let shifts = eqb-true one.shift other.shift parts.1 in
    λ i. record { stream = streams i; shift = shifts i }

equal-refl : (frame : Frame) → equal frame frame ≡ true
equal-refl frame = and_from (nat_eq frame.stream frame.stream) (nat_eq frame.shift frame.shift) (eq-eqb _ _ refl) (eq-eqb _ _ refl)

-- the test tells whether two frames are one
pub same_test : (one other : Frame) (b : Bool) → b ≡ equal one other → MatchBool b (one ≡ other) (one ≡ other → ⊥)
same_test one other true is = equal-true one other (sym is)
same_test one other false is = λ same. let clash : false ≡ true = is ∙ ap (equal one) (sym same) ∙ equal-refl one in cc clash

-- ---- a frame among others

or_right : (a : Bool) → (a || true) ≡ true
or_right true = refl
or_right false = refl

any_has : (list : List Frame) (frame : Frame) → list_any (equal frame) list ≡ true → Contains list frame
any_has list frame any = Contains-from_any {eq = equal} equal-true frame list any

has_any : (list : List Frame) (frame : Frame) → Contains list frame → list_any (equal frame) list ≡ true
has_any [] frame has = absurd (Contains-nil frame has)
has_any (x ∷ xs) frame has = elim (Contains-cons_cases x xs frame has) [
  | inl same ↦ ap (λ b. b || list_any (equal frame) xs) (subst (λ y. equal frame y ≡ true) (sym same) (equal-refl frame))
  | inr more ↦ ap (λ b. equal frame x || b) (has_any xs frame more) ∙ or_right (equal frame x)
]

none_has : (list : List Frame) (frame : Frame) → list_any (equal frame) list ≡ false → Contains list frame → ⊥
none_has list frame none has = let clash : false ≡ true = sym none ∙ has_any list frame has in cc clash

-- what the set tells of a frame
pub told : (list : List Frame) (frame : Frame) (b : Bool) → b ≡ list_any (equal frame) list → MatchBool b (Contains list frame) (Contains list frame → ⊥)
told list frame true is = any_has list frame (sym is)
told list frame false is = none_has list frame (sym is)

-- one that is none of them goes behind them
pub added : (list : List Frame) (frame : Frame) → (Contains list frame → ⊥) → insert_key equal list frame ≡ list ++ frame ∷ []
added list frame new = by (list_any (equal frame) list) refl
  where
    by : (any : Bool) → list_any (equal frame) list ≡ any → insert_key equal list frame ≡ list ++ frame ∷ []
    by true e = absurd (new (any_has list frame e))
    by false e = ap (λ c. if c then list else list ++ frame ∷ []) e
