-- The first wrong element of a list that the code goes through, seen by what its elements mean.
use Rattle.std.proofs.Common.{◌≡◌, ℕ, ◌<◌, ◌≤◌, List, length, take, get_or, map, sym, ap, ◌∙◌, subst}
use Rattle.std.specs.Prelude.{option_map}
use Rattle.std.proofs.lemmas.List.{take-map, take_all}
use Rattle.std.proofs.lemmas.Option.{slice_get-map, slice_get-get_or}
use Rattle.tsn_argue.specs.First.{IsFirstWrong, IsFirstTold}

-- the element at k is wrong behind those before it
unfoldable pub wrong_at : {A X F : Type 0} (seen : A → X) (Right : List X → Type 0) (Wrong : List X → X → F → Type 0) (xs : List A) (k : ℕ) (d : A) (fault : F)
    → k < length xs → Right (map seen (take k xs)) → Wrong (map seen (take k xs)) (seen (get_or xs k d)) fault → IsFirstWrong Right Wrong (map seen xs) fault
wrong_at seen Right Wrong xs k d fault below right wrong = record {
  k = k;
  there = seen (get_or xs k d);
  right_before = subst Right (sym (take-map seen k xs)) right;
  at = slice_get-map seen xs k ∙ ap (option_map seen) (slice_get-get_or xs k d below);
  wrong = subst (λ before. Wrong before (seen (get_or xs k d)) fault) (sym (take-map seen k xs)) wrong;
}

-- and is told by its number
pub told_at : {A X F T : Type 0} (seen : A → X) (told : ℕ → F → T) (Right : List X → Type 0) (Wrong : List X → X → F → Type 0) (xs : List A) (k : ℕ) (d : A)
    (wrong : F) (fault : T) → k < length xs → Right (map seen (take k xs)) → Wrong (map seen (take k xs)) (seen (get_or xs k d)) wrong
    → fault ≡ told k wrong → IsFirstTold told Right Wrong (map seen xs) fault
unfolding wrong_at
told_at seen told Right Wrong xs k d wrong fault below right is same = (wrong, wrong_at seen Right Wrong xs k d wrong below right is, same)

-- all are right where those before the end are
pub all_right : {A X : Type 0} (seen : A → X) (Right : List X → Type 0) (xs : List A) (k : ℕ) → length xs ≤ k → Right (map seen (take k xs))
    → Right (map seen xs)
all_right seen Right xs k done right = subst (λ ys. Right (map seen ys)) (take_all k xs done) right
