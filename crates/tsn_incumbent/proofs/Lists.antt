-- Sums and least numbers over a list in which one element changes, and standings that are put together.
use Rattle.std.proofs.Common.{◌≡◌, ℕ, zero, suc, ◌+◌, ◌<◌, ◌≤◌, min, not, cond, ltb, eqb, Bool, true, false, List, [], ◌∷◌, ◌++◌, length, get_or, set, refl, sym, ap, ◌∙◌, subst, arith}
use Rattle.std.specs.Prelude.{sum_by, filter, fold, map, All}
use Rattle.std.proofs.lemmas.List.Sums.{sum_by-cons, length-filter}
use Rattle.std.proofs.lemmas.List.Elements.{All-cons, All-head, All-tail, All-weaker}
use mathlib.Core.Option.{some, some-injective, some-ne-none}
use lib.ListN.{get_elem?}
use Rattle.tsn_incumbent.specs.declared.standing.Standing.{Standing}
use Rattle.tsn_model.specs.Network.{Network}
use Rattle.tsn_model.specs.Search.{least_or_none}
use Rattle.tsn_incumbent.specs.Flowspans.{no_flowspan}
use Rattle.tsn_incumbent.specs.Standings.{least, least_posted, placed, merged, times, alone}

module _ {X : Type 0} where
  pub there : (xs : List X) (i : ℕ) (x d : X) → get_elem? xs i ≡ some x → (i < length xs) × (get_or xs i d ≡ x)
  there [] i x d e = absurd (some-ne-none x (sym e))
  there (y ∷ ys) zero x d e = (omega arith, some-injective y x e)
  there (y ∷ ys) (suc i) x d e = let h = there ys i x d e in (omega (arith, h.0), h.1)

  pub all_at : (P : X → Type 0) (xs : List X) (i : ℕ) (x : X) → All P xs → get_elem? xs i ≡ some x → P x
  all_at P xs i x all e = let h = there xs i x x e in subst P h.1 (all i x h.0)

  module _ (f : X → ℕ) where
    -- a sum is one element's part and the others'
    pub sum_apart : (xs : List X) (i : ℕ) (x : X) → get_elem? xs i ≡ some x → (r : ℕ) × (sum_by f xs ≡ f x + r) × ((y : X) → sum_by f (set xs i y) ≡ f y + r)
    sum_apart [] i x e = absurd (some-ne-none x (sym e))
    sum_apart (y ∷ ys) zero x e = (sum_by f ys, sum_by-cons f y ys ∙ ap (λ z. f z + sum_by f ys) (some-injective y x e), λ z. sum_by-cons f z ys)
    sum_apart (y ∷ ys) (suc i) x e =
        let h = sum_apart ys i x e in
        (f y + h.0, omega (arith, sum_by-cons f y ys, h.1), λ z. omega (arith, sum_by-cons f y (set ys i z), h.2 z))

  module _ (f : X → ℕ) (c : ℕ) where
    pub least_apart : (xs : List X) (i : ℕ) (x : X) → get_elem? xs i ≡ some x → (r : ℕ) × (least f c xs ≡ min (f x) r) × ((y : X) → least f c (set xs i y) ≡ min (f y) r)
    least_apart [] i x e = absurd (some-ne-none x (sym e))
    least_apart (y ∷ ys) zero x e = (least f c ys, ap (λ z. min (f z) (least f c ys)) (some-injective y x e), λ z. refl)
    least_apart (y ∷ ys) (suc i) x e =
        let h = least_apart ys i x e in
        (min (f y) h.0, omega (arith, h.1), λ z. omega (arith, h.2 z))

    pub least_le : (xs : List X) → least f c xs ≤ c
    least_le [] = omega arith
    least_le (x ∷ xs) = omega (arith, least_le xs)

    -- the same from the first on
    fold_from : (a : ℕ) (xs : List X) → a ≤ c → fold min a (map f xs) ≡ min a (least f c xs)
    fold_from a [] low = omega (arith, low)
    fold_from a (x ∷ xs) low = omega (arith, fold_from (min a (f x)) xs (omega (arith, low)))

    pub fold_least : (xs : List X) → least f c xs ≡ fold min c (map f xs)
    fold_least xs = omega (arith, fold_from c xs (omega arith), least_le xs)

    pub least_push : (xs : List X) (y : X) → least f c (xs ++ y ∷ []) ≡ min (f y) (least f c xs)
    least_push [] y = refl
    least_push (x ∷ xs) y = omega (arith, least_push xs y)

    pub least_at_most : (xs : List X) → All (λ x. least f c xs ≤ f x) xs
    least_at_most [] = λ k d low. absurd (omega arith)
    least_at_most (x ∷ xs) = All-cons (λ y. least f c (x ∷ xs) ≤ f y) x xs (omega arith) (All-weaker (λ y. least f c xs ≤ f y) (λ y. least f c (x ∷ xs) ≤ f y) (λ y low. omega (arith, low)) xs (least_at_most xs))

    pub least-filter_both : (p q : X → Bool) → ((x : X) → q x ≡ not (p x)) → (xs : List X) → min (least f c (filter p xs)) (least f c (filter q xs)) ≡ least f c xs
    least-filter_both p q other [] = omega arith
    least-filter_both p q other (x ∷ xs) =
        let rest = least-filter_both p q other xs in
        rw (other x)
        (elim (p x) as (λ b. min (least f c (cond b (x ∷ filter p xs) (filter p xs))) (least f c (cond (not b) (x ∷ filter q xs) (filter q xs))) ≡ min (f x) (least f c xs)) [
          | true ↦ omega (arith, rest)
          | false ↦ omega (arith, rest)
        ])

pub sum_by-placed : (f : Standing → ℕ) (p : Standing) (qs : List Standing) → sum_by f (placed p qs) ≡ f p + sum_by f qs
sum_by-placed f p [] = sum_by-cons f p []
sum_by-placed f p (q ∷ qs) =
    elim (ltb p.number q.number) as (λ b. sum_by f (cond b (p ∷ q ∷ qs) (q ∷ placed p qs)) ≡ f p + sum_by f (q ∷ qs)) [
      | true ↦ sum_by-cons f p (q ∷ qs)
      | false ↦ omega (arith, sum_by-cons f q (placed p qs), sum_by-cons f q qs, sum_by-placed f p qs)
    ]

pub sum_by-merged : (f : Standing → ℕ) (ps qs : List Standing) → sum_by f (merged ps qs) ≡ sum_by f ps + sum_by f qs
sum_by-merged f [] qs = omega arith
sum_by-merged f (p ∷ ps) qs = omega (arith, sum_by-placed f p (merged ps qs), sum_by-merged f ps qs, sum_by-cons f p ps)

pub least-placed : (f : Standing → ℕ) (c : ℕ) (p : Standing) (qs : List Standing) → least f c (placed p qs) ≡ min (f p) (least f c qs)
least-placed f c p [] = refl
least-placed f c p (q ∷ qs) =
    elim (ltb p.number q.number) as (λ b. least f c (cond b (p ∷ q ∷ qs) (q ∷ placed p qs)) ≡ min (f p) (min (f q) (least f c qs))) [
      | true ↦ refl
      | false ↦ omega (arith, least-placed f c p qs)
    ]

pub least-merged : (f : Standing → ℕ) (c : ℕ) (ps qs : List Standing) → least f c (merged ps qs) ≡ min (least f c ps) (least f c qs)
least-merged f c [] qs = omega (arith, least_le f c qs)
least-merged f c (p ∷ ps) qs = omega (arith, least-placed f c p (merged ps qs), least-merged f c ps qs)

pub All-placed : (P : Standing → Type 0) (p : Standing) (qs : List Standing) → P p → All P qs → All P (placed p qs)
All-placed P p [] here all = All-cons P p [] here all
All-placed P p (q ∷ qs) here all =
    elim (ltb p.number q.number) as (λ b. All P (cond b (p ∷ q ∷ qs) (q ∷ placed p qs))) [
      | true ↦ All-cons P p (q ∷ qs) here all
      | false ↦ All-cons P q (placed p qs) (All-head P q qs all) (All-placed P p qs here (All-tail P q qs all))
    ]

pub All-merged : (P : Standing → Type 0) (ps qs : List Standing) → All P ps → All P qs → All P (merged ps qs)
All-merged P [] qs left right = right
All-merged P (p ∷ ps) qs left right = All-placed P p (merged ps qs) (All-head P p ps left) (All-merged P ps qs (All-tail P p ps left) right)

pub placed-holds : (p : Standing) (qs : List Standing) → 0 < length (placed p qs)
placed-holds p [] = omega arith
placed-holds p (q ∷ qs) = elim (ltb p.number q.number) as (λ b. 0 < length (cond b (p ∷ q ∷ qs) (q ∷ placed p qs))) [ true ↦ omega arith | false ↦ omega arith ]

pub merged-holds : (ps qs : List Standing) → 0 < length qs → 0 < length (merged ps qs)
merged-holds [] qs some_there = some_there
merged-holds (p ∷ ps) qs some_there = placed-holds p (merged ps qs)

-- a number that stands somewhere stands in what is taken out
pub alone-holds : (number : ℕ) (ps : List Standing) → times number ps ≡ 1 → 0 < length (alone number ps)
alone-holds number ps e = let h = length-filter (λ (p : Standing). eqb p.number number) ps in omega (arith, h, e)

-- in the words of the search
pub least_posted_among : (network : Network) (ps : List Standing) → least_posted network ps ≡ least_or_none network (map (λ (p : Standing). p.posted) ps)
unfolding least_or_none
least_posted_among network ps = fold_least (λ (p : Standing). p.posted) (no_flowspan network) ps
