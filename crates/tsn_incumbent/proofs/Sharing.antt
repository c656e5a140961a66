-- Each step keeps equal tallies in the two halves of a number.
use Rattle.std.proofs.Common.{◌≡◌, ℕ, zero, suc, ◌+◌, ◌≤◌, cond, leb, eqb, eq-eqb, add-zero, Bool, true, false, List, [], ◌∷◌, ◌++◌, get_or, set, refl, sym, ap, ◌∙◌, subst, arith}
use Rattle.std.specs.Prelude.{sum_by, All}
use Rattle.std.proofs.lemmas.Bool.Decides.{nat_tests}
use Rattle.std.proofs.lemmas.List.Sums.{sum_by-cons, sum_by_push, get_or-le-sum_by}
use Rattle.std.proofs.lemmas.List.Elements.{All-nil, All-cons, All-set, All-push}
use Rattle.atomic_table.specs.Seated.{TableId}
use Rattle.atomic_table.specs.Table.{Me, Allows, Splits, Joins, keeps}
use Rattle.atomic_table.proofs.Lists.{set_else}
use Rattle.tsn_incumbent.specs.declared.share.Part.{Part}
use Rattle.tsn_incumbent.specs.declared.share.Part.TheVariants.{Rest, First, Second, Pair, Spent}
use Rattle.tsn_incumbent.specs.declared.share.Share.{Share}
use Rattle.tsn_model.specs.declared.Tally.{Tally}
use Rattle.tsn_incumbent.specs.Halves.{share, rest_from, after_dealing, dealt, first_of, second_of, paired, spent_share, firsts_in, seconds_in, firsts, seconds, FitsPart, Fits, Fitting, Agreeing, Sets, half, halves_from, half_of, is_second_part, IsHalf, IsHalfPart}
use Rattle.tsn_incumbent.proofs.Lists.{all_at, sum_apart}

-- a number among the rest is the first of them or among those after it
one_dealt : (n k : ℕ) → cond (leb n k) 1 0 ≡ cond (leb (n + 1) k) 1 0 + cond (eqb n k) 1 0
one_dealt n k = grind (arith, nat_tests)

not_it : (m n : ℕ) (times : ℕ) → times ≡ cond (eqb m n) 1 0 → times ≡ 0 → eqb m n ≡ false
not_it m n times is none = grind (arith, nat_tests)

past : (m n k : ℕ) (times : ℕ) → times ≡ cond (leb m n) 1 0 → times ≡ 0 → m ≤ k → eqb k n ≡ false
past m n k times is none low = grind (arith, nat_tests)

le_one : (n : ℕ) → cond (leb 0 n) 1 0 ≤ 1
le_one n = grind (arith, nat_tests)

pub begins : (opening : Tally) → Fitting (rest_from 0 opening ∷ [])
begins opening = record {
  firsts = λ k. omega (arith, sum_by-cons (firsts k) (rest_from 0 opening) [], le_one k);
  seconds = λ k. omega (arith, sum_by-cons (seconds k) (rest_from 0 opening) [], le_one k);
  tally_of = λ k. opening;
  fits = All-cons (Fits (λ k. opening)) (rest_from 0 opening) [] (λ k low. refl) (All-nil (Fits (λ k. opening)));
}

deals_at : (id n : ℕ) (t o : Tally) → Splits {S = Unit {0}} Agreeing id (share Rest n t o) (after_dealing (share Rest n t o)) (dealt (share Rest n t o))
deals_at id n t o s h at =
    let v = share Rest n t o in
    let left = after_dealing v in
    let right = dealt v in
    let mine : (k : ℕ) → n ≤ k → h.tally_of k ≡ t = all_at (Fits h.tally_of) s.views id v h.fits at in
    record {
      firsts = λ k. let sums = sum_apart (firsts k) s.views id v at in omega (arith, h.firsts k, sums.1, sums.2 left, one_dealt n k, sum_by_push (firsts k) (set s.views id left) right);
      seconds = λ k. let sums = sum_apart (seconds k) s.views id v at in omega (arith, h.seconds k, sums.1, sums.2 left, one_dealt n k, sum_by_push (seconds k) (set s.views id left) right);
      tally_of = h.tally_of;
      fits = All-push (Fits h.tally_of) (set s.views id left) right (All-set (Fits h.tally_of) s.views id left (λ k low. mine k (omega arith)) h.fits) (mine n (omega arith), mine n (omega arith));
    }

parts_at : (id n : ℕ) (t o : Tally) → Splits {S = Unit {0}} Agreeing id (share Pair n t o) (first_of (share Pair n t o)) (second_of (share Pair n t o))
parts_at id n t o s h at =
    let v = share Pair n t o in
    let left = first_of v in
    let right = second_of v in
    let mine = all_at (Fits h.tally_of) s.views id v h.fits at in
    record {
      firsts = λ k. let sums = sum_apart (firsts k) s.views id v at in omega (arith, h.firsts k, sums.1, sums.2 left, sum_by_push (firsts k) (set s.views id left) right);
      seconds = λ k. let sums = sum_apart (seconds k) s.views id v at in omega (arith, h.seconds k, sums.1, sums.2 left, sum_by_push (seconds k) (set s.views id left) right);
      tally_of = h.tally_of;
      fits = All-push (Fits h.tally_of) (set s.views id left) right (All-set (Fits h.tally_of) s.views id left mine.0 h.fits) mine.0;
    }

pairs_at : (id n : ℕ) (t o : Tally) (other : ℕ) (u p : Tally) → Joins {S = Unit {0}} Agreeing id (share First n t o) other (share Second n u p) (paired (share First n t o) (share Second n u p)) spent_share
pairs_at id n t o other u p s h at different there =
    let v = share First n t o in
    let w = share Second n u p in
    let both = paired v w in
    let views' = set s.views id both in
    let mine = all_at (Fits h.tally_of) s.views id v h.fits at in
    let theirs = all_at (Fits h.tally_of) s.views other w h.fits (sym (set_else s.views id other both different) ∙ there) in
    record {
      firsts = λ k. let one = sum_apart (firsts k) s.views id v at in let two = sum_apart (firsts k) views' other w there in omega (arith, h.firsts k, one.1, one.2 both, two.1, two.2 spent_share);
      seconds = λ k. let one = sum_apart (seconds k) s.views id v at in let two = sum_apart (seconds k) views' other w there in omega (arith, h.seconds k, one.1, one.2 both, two.1, two.2 spent_share);
      tally_of = h.tally_of;
      fits = All-set (Fits h.tally_of) views' other spent_share tt (All-set (Fits h.tally_of) s.views id both (mine, theirs) h.fits);
    }

count_it : (n : ℕ) (times : ℕ) → times ≡ cond (eqb n n) 1 0 → times ≡ 1
count_it n times is = grind (arith, nat_tests)

-- the tallies of the numbers, after that of n is set
abbrev set_tally : (ℕ → Tally) → ℕ → Tally → ℕ → Tally
set_tally tally_of n tally k = cond (eqb k n) tally (tally_of k)

-- a share that has nothing of the number n keeps its tally
keeps_tally : (tally_of : ℕ → Tally) (n : ℕ) (tally : Tally) (part : Part) (m : ℕ) (t o : Tally) → firsts_in part m n ≡ 0 → seconds_in part m n ≡ 0 → FitsPart part tally_of m t o → FitsPart part (set_tally tally_of n tally) m t o
keeps_tally tally_of n tally Rest m t o no_first no_second fits = λ k low. rw (past m n k _ refl no_first low) (fits k low)
keeps_tally tally_of n tally First m t o no_first no_second fits = rw (not_it m n _ refl no_first) fits
keeps_tally tally_of n tally Second m t o no_first no_second fits = rw (not_it m n _ refl no_second) fits
keeps_tally tally_of n tally Pair m t o no_first no_second fits = rw (not_it m n _ refl no_first) fits
keeps_tally tally_of n tally Spent m t o no_first no_second fits = tt

set_twice : {X : Type 0} (xs : List X) (i : ℕ) (x y : X) → set (set xs i x) i y ≡ set xs i y
set_twice [] i x y = refl
set_twice (z ∷ zs) zero x y = refl
set_twice (z ∷ zs) (suc i) x y = ap (λ l. z ∷ l) (set_twice zs i x y)

sets_at : (slots id n : ℕ) (t o tally : Tally) → Allows {S = Unit {0}} Agreeing slots id (share Pair n t o, []) 0 (λ word. word) (λ word. Sets tally (share Pair n t o, []))
sets_at slots id n t o tally s h homes at fits =
    let v = share Pair n t o in
    let new = share Pair n tally tally in
    let others = set s.views id spent_share in
    let mine = all_at (Fits h.tally_of) s.views id v h.fits at in
    let it : eqb n n ≡ true = eq-eqb n n refl in
    let here : set_tally h.tally_of n tally n ≡ tally = rw it refl in
    let one = count_it n in
    let no_firsts : sum_by (firsts n) others ≡ 0 = (let sums = sum_apart (firsts n) s.views id v at in omega (arith, h.firsts n, sums.1, sums.2 spent_share, one (firsts n v) refl)) in
    let no_seconds : sum_by (seconds n) others ≡ 0 = (let sums = sum_apart (seconds n) s.views id v at in omega (arith, h.seconds n, sums.1, sums.2 spent_share, one (seconds n v) refl)) in
    let rest = All-set (Fits h.tally_of) s.views id spent_share tt h.fits in
    let kept : All (Fits (set_tally h.tally_of n tally)) others = λ k d low.
    let w = get_or others k d in
    keeps_tally h.tally_of n tally w.part w.number w.tally w.other (omega (arith, get_or-le-sum_by (firsts n) others k d low, no_firsts)) (omega (arith, get_or-le-sum_by (seconds n) others k d low, no_seconds)) (rest k d low) in (
      new,
      keeps,
      tt,
      record {
        firsts = λ k. let sums = sum_apart (firsts k) s.views id v at in omega (arith, h.firsts k, sums.1, sums.2 new);
        seconds = λ k. let sums = sum_apart (seconds k) s.views id v at in omega (arith, h.seconds k, sums.1, sums.2 new);
        tally_of = set_tally h.tally_of n tally;
        fits = subst (All (Fits (set_tally h.tally_of n tally))) (set_twice s.views id spent_share new) (All-set (Fits (set_tally h.tally_of n tally)) others id new (here, here) kept);
      },
      (refl, sym mine.0 ∙ mine.1),
    )

-- the same, of a share whose part is known
as_part : (v : Share) (part : Part) → v.part ≡ part → share part v.number v.tally v.other ≡ v
as_part v part e = λ i. share (sym e i) v.number v.tally v.other

pub deals : (id : ℕ) (v : Share) → v.part ≡ Rest → Splits {S = Unit {0}} Agreeing id v (after_dealing v) (dealt v)
deals id v e = subst (λ (u : Share). Splits {S = Unit {0}} Agreeing id u (after_dealing u) (dealt u)) (as_part v Rest e) (deals_at id v.number v.tally v.other)

pub parts : (id : ℕ) (v : Share) → v.part ≡ Pair → Splits {S = Unit {0}} Agreeing id v (first_of v) (second_of v)
parts id v e = subst (λ (u : Share). Splits {S = Unit {0}} Agreeing id u (first_of u) (second_of u)) (as_part v Pair e) (parts_at id v.number v.tally v.other)

pub pairs : (id : ℕ) (v : Share) (other : ℕ) (w : Share) → v.part ≡ First → w.part ≡ Second → v.number ≡ w.number → Joins {S = Unit {0}} Agreeing id v other w (paired v w) spent_share
pairs id v other w first second same =
    let P : Share → Share → Type 0 = λ x y. Joins {S = Unit {0}} Agreeing id x other y (paired x y) spent_share in
    let left : share First v.number v.tally v.other ≡ v = as_part v First first in
    let right : share Second v.number w.tally w.other ≡ w = (λ i. share (sym second i) (same i) w.tally w.other) in
    subst (λ (x : Share × Share). P x.0 x.1) (λ i. (left i, right i)) (pairs_at id v.number v.tally v.other other w.tally w.other)

pub sets : (slots id : ℕ) (me : Me (Unit {0}) Share) (tally : Tally) → me.0.part ≡ Pair → me.1 ≡ [] → Allows Agreeing slots id me 0 (λ word. word) (λ word. Sets tally me)
sets slots id me tally pair nothing =
    subst (λ (x : Me (Unit {0}) Share). Allows Agreeing slots id x 0 (λ word. word) (λ word. Sets tally x)) (λ i. (as_part me.0 Pair pair i, sym nothing i)) (sets_at slots id me.0.number me.0.tally me.0.other tally)

-- what a badge says of its one view
pub badge_part : (table : TableId) (views : List Share) (v : Share) → views ≡ v ∷ [] → IsHalf views → (second : Bool) → (half_of table views).is_second ≡ second → v.part ≡ cond second Second First
badge_part table views v e is second side = by_part v.part (subst IsHalf e is) (sym (ap (λ vs. (half_of table vs).is_second) e) ∙ side)
  where
    by_part : (part : Part) → IsHalfPart part → is_second_part part ≡ second → part ≡ cond second Second First
    by_part Rest is side = elim is [ ]
    by_part First is side = rw (← side) refl
    by_part Second is side = rw (← side) refl
    by_part Pair is side = elim is [ ]
    by_part Spent is side = elim is [ ]

pub one_more : (table : TableId) (opening : Tally) (first count : ℕ) → halves_from table opening first (count + 1) ≡ halves_from table opening first count ++ (half table (first + count) false opening, half table (first + count) true opening) ∷ []
one_more table opening first zero = rw (add-zero) refl
one_more table opening first (suc count) =
    let step = one_more table opening (suc first) count in
    let here : suc first + count ≡ first + suc count = omega arith in
    let longer : suc count + 1 ≡ suc (count + 1) = omega arith in
    rw longer (ap (λ hs. (half table first false opening, half table first true opening) ∷ hs) (rw here at step))

pub one_more_dealt : (table : TableId) (opening : Tally) (count : ℕ) → halves_from table opening 0 count ++ (half table count false opening, half table count true opening) ∷ [] ≡ halves_from table opening 0 (count + 1)
one_more_dealt table opening count = let step = one_more table opening 0 count in let zero_more : 0 + count ≡ count = omega arith in sym (rw zero_more at step)
