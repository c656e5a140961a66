-- The open paths in preorder.
use Rattle.std.proofs.Common.{◌≢◌, List, [], ◌∷◌, All, AllPairs, Contains, refl, sym, ◌∙◌, subst, ◌⊎◌, inl, inr}
use Rattle.std.proofs.lemmas.List.Elements.{All-nil, All-cons, All-append, All-weaker, All-contains}
use Rattle.std.proofs.lemmas.List.Kept.{AllPairs-cons}
use Rattle.tsn_model.specs.declared.Side.TheVariants.{Left, Right}
use Rattle.tsn_model.specs.declared.Decision.{Decision}
use Rattle.tsn_model.specs.Network.{Network}
use Rattle.tsn_model.specs.Certificate.{decided}
use Rattle.tsn_model.specs.Search.{Settlement, open_paths, IsLegal, PathBefore}
use Rattle.tsn_model.proofs.Lists.{Contains-cons_cases, Contains-nil, AllPairs-head, AllPairs-tail}
use Rattle.tsn_model.proofs.SearchLists.{AllPairs-nil, AllPairs-append_each}
use Rattle.tsn_model.proofs.Growths.{Growth, open_place, leaf_place, branch_place, open_in, legal_growth}
use Rattle.tsn_model.proofs.Preorders.{Begins, Begins-itself, Begins-shorter}

-- ---- open paths

open_in_begin : (path : List Decision) (growth : Growth) → All (Begins path) (open_in path growth)
unfolding open_in
open_in_begin path open_place = All-cons (Begins path) path [] (Begins-itself path path refl) (All-nil (Begins path))
open_in_begin path (leaf_place settlement) = All-nil (Begins path)
open_in_begin path (branch_place settlement triple first second) =
    All-append (Begins path) (open_in (decided path triple Left) first) (open_in (decided path triple Right) second)
    (All-weaker (Begins (decided path triple Left)) (Begins path) (Begins-shorter path triple Left) (open_in (decided path triple Left) first) (open_in_begin (decided path triple Left) first))
    (All-weaker (Begins (decided path triple Right)) (Begins path) (Begins-shorter path triple Right) (open_in (decided path triple Right) second) (open_in_begin (decided path triple Right) second))

pub open_in_ordered : (path : List Decision) (growth : Growth) → AllPairs PathBefore (open_in path growth)
unfolding open_in
open_in_ordered path open_place = AllPairs-cons PathBefore path [] (All-nil (PathBefore path)) (AllPairs-nil PathBefore)
open_in_ordered path (leaf_place settlement) = AllPairs-nil PathBefore
open_in_ordered path (branch_place settlement triple first second) =
    AllPairs-append_each PathBefore (open_in (decided path triple Left) first) (open_in (decided path triple Right) second)
    (open_in_ordered (decided path triple Left) first) (open_in_ordered (decided path triple Right) second)
    (λ a b in_first in_second.
    let left = All-contains (Begins (decided path triple Left)) (open_in (decided path triple Left) first) a (open_in_begin (decided path triple Left) first) in_first in
    let right = All-contains (Begins (decided path triple Right)) (open_in (decided path triple Right) second) b (open_in_begin (decided path triple Right) second) in_second in
    (path, triple, left.rest, right.rest, left.is, right.is))

-- of two elements of a list in order, one is before the other, or they are one
order_of : {X : Type 0} (R : X → X → Type 0) (xs : List X) (x y : X) → AllPairs R xs → Contains xs x → Contains xs y → x ≢ y → R x y ⊎ R y x
order_of R [] x y ordered has_x has_y apart = absurd (Contains-nil x has_x)
order_of R (z ∷ zs) x y ordered has_x has_y apart =
    elim (Contains-cons_cases z zs x has_x) [
      | inl x_first ↦ elim (Contains-cons_cases z zs y has_y) [
        | inl y_first ↦ absurd (apart (sym x_first ∙ y_first))
        | inr y_later ↦ inl (subst (λ w. R w y) x_first (All-contains (R z) zs y (AllPairs-head R z zs ordered) y_later))
      ]
      | inr x_later ↦ elim (Contains-cons_cases z zs y has_y) [
        | inl y_first ↦ inr (subst (λ w. R w x) y_first (All-contains (R z) zs x (AllPairs-head R z zs ordered) x_later))
        | inr y_later ↦ order_of R zs x y (AllPairs-tail R z zs ordered) x_later y_later apart
      ]
    ]

-- of two open paths one turns left where the other turns right
pub open_paths_part : (network : Network) (history : List Settlement) → IsLegal network history → (first second : List Decision)
    → Contains (open_paths history) first → Contains (open_paths history) second → first ≢ second → PathBefore first second ⊎ PathBefore second first
open_paths_part network history legal first second is_first is_second apart =
    let of = legal_growth network history legal in
    order_of PathBefore (open_in [] of.growth) first second (open_in_ordered [] of.growth) (of.has_open first is_first) (of.has_open second is_second) apart
