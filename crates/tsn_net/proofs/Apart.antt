-- Where no node has the name of another, and no cable joins the nodes of another, the first that is found is the only one.
use Rattle.std.proofs.Common.{◌≡◌, ℕ, zero, suc, ◌<◌, Bool, true, false, ◌&&◌, ◌||◌, List, [], ◌∷◌, length, map, take, get_or, position, Some, None, refl, ap, sym, ◌∙◌, inl, inr, arith}
use Rattle.std.specs.Prelude.{nat_le, is_some}
use Rattle.std.specs.List.{list_any}
use Rattle.std.specs.Str.{bytes_eq}
use Rattle.std.specs.Cmp.Lexicographic.{nat_list_eq_equiv}
use Rattle.std.proofs.Math.Bool.{and_comm, and-false, or_comm, or-false}
use Rattle.std.proofs.lemmas.Bool.{false≢true, and_parts, or_parts, cases_lt, false_from_ne_true}
use Rattle.std.proofs.lemmas.List.{get_or-take, length-take, get_or-map, length-map}
use Rattle.std.proofs.lemmas.List.Folds.{list_any_none}
use Rattle.std.proofs.lemmas.List.Quantifiers.{position-Some}
use Rattle.std.proofs.lemmas.Slice.Eq.{bytes_eq-Decides}
use Rattle.toml.specs.Data.{Data, table, no_members}
use Rattle.toml.specs.View.{view}
use Rattle.toml.specs.declared.value.Value.{Value}
use Rattle.tsn_net.specs.declared.schema.Key.TheVariants as key
use Rattle.tsn_model.specs.declared.fault.Code.TheVariants.{NotToml, DuplicateName, DuplicateCable, BadSlack}
use Rattle.tsn_net.specs.Document.{Document, text_at}
use Rattle.tsn_net.specs.Conditions.{holds, first_place, conditions, duplicate_name, duplicate_cable, joins, delay_over, is_quick}
use Rattle.tsn_net.specs.Problem.{HasDistinctNames}
use Rattle.tsn_net.specs.Index.{HasDistinctCables, AreApart}
use Rattle.tsn_net.proofs.Faultless.{IsClear-from_none}
use Rattle.tsn_net.proofs.Found.{or_cases}
use Rattle.tsn_net.proofs.MatterLemmas.{position_any}
use Rattle.tsn_net.proofs.WellFormedDelays.{fails_at}

none_passes : {A : Type 0} (p q : A → Bool) (xs : List A) (d : A) → ((j : ℕ) → j < length xs → p (get_or xs j d) ≡ false)
    → list_any (λ x. p x && q x) xs ≡ false
none_passes p q [] d fails = refl
none_passes p q (x ∷ xs) d fails =
    let here : p x ≡ false = fails 0 (omega arith) in
    rw here (none_passes p q xs d (λ j w. fails (suc j) (omega arith)))

-- where one element alone passes, what holds of one that passes holds of it
only_one : {A : Type 0} (p q : A → Bool) (xs : List A) (i : ℕ) (d : A) → i < length xs → p (get_or xs i d) ≡ true
    → ((j : ℕ) → j < length xs → (j ≡ i → ⊥) → p (get_or xs j d) ≡ false) → list_any (λ x. p x && q x) xs ≡ q (get_or xs i d)
only_one p q [] i d w passes others = absurd (omega arith)
only_one p q (x ∷ xs) zero d w passes others =
    let here : p x ≡ true = passes in
    let rest : list_any (λ y. p y && q y) xs ≡ false = none_passes p q xs d (λ j v. others (suc j) (omega arith) (λ e. omega arith)) in
    rw (here, rest) (or-false (q x))
only_one p q (x ∷ xs) (suc i) d w passes others =
    let here : p x ≡ false = others 0 (omega arith) (λ e. omega arith) in
    rw here (only_one p q xs i d (omega arith) passes (λ j v apart. others (suc j) (omega arith) (λ e. apart (omega arith))))

-- what passes first passes alone, where two that pass are alike, and none is like one before it
module _ {A : Type 0} (R : A → A → Bool) (symm : (s t : A) → R s t ≡ R t s) (p : A → Bool) (xs : List A) (d : A)
    (alike : (s t : A) → p s ≡ true → p t ≡ true → R s t ≡ true)
    (apart : (n : ℕ) → n < length xs → list_any (R (get_or xs n d)) (take n xs) ≡ false) where
  clash : (i j : ℕ) → i < j → j < length xs → p (get_or xs i d) ≡ true → p (get_or xs j d) ≡ true → ⊥
  clash i j before w first second =
      let inside : i < length (take j xs) = let long = length-take j xs in omega arith in
      let fails = fails_at (R (get_or xs j d)) (take j xs) i d inside (apart j w) in
      let same : R (get_or xs j d) (get_or (take j xs) i d) ≡ true =
      ap (R (get_or xs j d)) (get_or-take j xs i d before) ∙ alike (get_or xs j d) (get_or xs i d) second first in
      false≢true (sym fails ∙ same)

  others_fail : (i j : ℕ) → i < length xs → j < length xs → (j ≡ i → ⊥) → p (get_or xs i d) ≡ true → p (get_or xs j d) ≡ false
  others_fail i j w v differ passes =
      false_from_ne_true (p (get_or xs j d))
      (λ also. elim (cases_lt i j) [
        | inl before ↦ clash i j before v passes also
        | inr rest ↦ elim (cases_lt j i) [
          | inl after ↦ clash j i after w also passes
          | inr least ↦ differ (omega arith)
        ]
      ])

  pub first_alone : (q : A → Bool) (i : ℕ) → position p xs ≡ Some i → list_any (λ x. p x && q x) xs ≡ q (get_or xs i d)
  first_alone q i at =
      let f = position-Some p xs i d at in
      only_one p q xs i d f.0 f.1 (λ j v differ. others_fail i j f.0 v differ f.1)

-- two nodes have the same name
abbrev named_alike : Data → Data → Bool
named_alike s t = bytes_eq (text_at key.Name s) (text_at key.Name t)

-- two cables join the same nodes
abbrev joined_alike : Data → Data → Bool
joined_alike s t = joins (text_at key.A s) (text_at key.B s) t

joined_alike-symm : (s t : Data) → joined_alike s t ≡ joined_alike t s
joined_alike-symm s t =
    let symm = nat_list_eq_equiv.symm in
    let a = text_at key.A s in
    let b = text_at key.B s in
    let e = text_at key.A t in
    let f = text_at key.B t in
    let crossed : (bytes_eq e b && bytes_eq f a) ≡ (bytes_eq a f && bytes_eq b e) =
    and_comm (bytes_eq e b) (bytes_eq f a) ∙ (λ j. symm f a j && symm e b j) in
    λ j. (symm e a j && symm f b j) || crossed j

both_joined : (x y : List ℕ) (s t : Data) → joins x y s ≡ true → joins x y t ≡ true → joined_alike s t ≡ true
both_joined x y s t first second =
    let a = text_at key.A s in
    let b = text_at key.B s in
    elim (or_cases (bytes_eq a x && bytes_eq b y) (bytes_eq a y && bytes_eq b x) first) [
      | inl along ↦
          let parts = and_parts (bytes_eq a x) (bytes_eq b y) along in
          (λ j. joins ((bytes_eq-Decides a x).0 parts.0 j) ((bytes_eq-Decides b y).0 parts.1 j) t) ∙ second
      | inr back ↦
          let parts = and_parts (bytes_eq a y) (bytes_eq b x) back in
          (λ j. joins ((bytes_eq-Decides a y).0 parts.0 j) ((bytes_eq-Decides b x).0 parts.1 j) t)
          ∙ or_comm (bytes_eq (text_at key.A t) y && bytes_eq (text_at key.B t) x)
          (bytes_eq (text_at key.A t) x && bytes_eq (text_at key.B t) y) ∙ second
    ]

module _ (slack octets : ℕ) (nodes cables : List Data) (x y : List ℕ) where
  abbrev ends : Data → Data → Bool
  ends cable node = nat_le (delay_over octets cable node) slack

  abbrev ends_quick : Data → Bool
  ends_quick cable = list_any (λ node. bytes_eq (text_at key.Name node) y && ends cable node) nodes

  abbrev cable_at : ℕ → Data
  cable_at k = get_or cables k (table no_members)

  abbrev node_at : ℕ → Data
  node_at n = get_or nodes n (table no_members)

  named_fails : position (λ t. bytes_eq y (text_at key.Name t)) nodes ≡ None → (j : ℕ) → j < length nodes
      → bytes_eq (text_at key.Name (node_at j)) y ≡ false
  named_fails none j w =
      let absent : list_any (λ t. bytes_eq y (text_at key.Name t)) nodes ≡ false =
      sym (position_any (λ t. bytes_eq y (text_at key.Name t)) nodes) ∙ ap is_some none in
      nat_list_eq_equiv.symm (text_at key.Name (node_at j)) y
      ∙ fails_at (λ t. bytes_eq y (text_at key.Name t)) nodes j (table no_members) w absent

  -- the position of a name, read the other way
  named_at : (n : ℕ) → position (λ t. bytes_eq y (text_at key.Name t)) nodes ≡ Some n
      → position (λ t. bytes_eq (text_at key.Name t) y) nodes ≡ Some n
  named_at n at = (λ j. position (λ t. nat_list_eq_equiv.symm (text_at key.Name t) y j) nodes) ∙ at

  -- no cable
  pub quick_without : position (joins x y) cables ≡ None → is_quick slack octets nodes cables (x, y) ≡ false
  quick_without none =
      let absent : list_any (joins x y) cables ≡ false = sym (position_any (joins x y) cables) ∙ ap is_some none in
      none_passes (joins x y) ends_quick cables (table no_members) (λ j w. fails_at (joins x y) cables j (table no_members) w absent)

  -- no node
  pub quick_nowhere : position (λ t. bytes_eq y (text_at key.Name t)) nodes ≡ None → is_quick slack octets nodes cables (x, y) ≡ false
  quick_nowhere none =
      list_any_none (λ cable. joins x y cable && ends_quick cable) cables
      (λ k d w. ap (λ b. joins x y (get_or cables k d) && b)
      (none_passes (λ node. bytes_eq (text_at key.Name node) y) (ends (get_or cables k d)) nodes (table no_members) (named_fails none))
      ∙ and-false (joins x y (get_or cables k d)))

  -- the first cable and the first node decide
  pub quick_between : HasDistinctNames nodes → HasDistinctCables cables → (k n : ℕ) → position (joins x y) cables ≡ Some k
      → position (λ t. bytes_eq y (text_at key.Name t)) nodes ≡ Some n
      → is_quick slack octets nodes cables (x, y) ≡ ends (cable_at k) (node_at n)
  quick_between names pairs k n cable node =
      first_alone joined_alike joined_alike-symm (joins x y) cables (table no_members) (both_joined x y) pairs ends_quick k cable
      ∙ first_alone named_alike (λ s t. nat_list_eq_equiv.symm (text_at key.Name s) (text_at key.Name t))
      (λ t. bytes_eq (text_at key.Name t) y) nodes (table no_members)
      (λ s t first second. nat_list_eq_equiv.congr (text_at key.Name s) y (text_at key.Name t) first
      ∙ nat_list_eq_equiv.symm y (text_at key.Name t) ∙ second) names (ends (cable_at k)) n (named_at n node)

-- what is found among values is one of them, and is seen
pub found_within : (p : Data → Bool) (vs : List Value) (k : ℕ) → position p (map view vs) ≡ Some k → k < length vs
found_within p vs k at =
    let inside = (position-Some p (map view vs) k (table no_members) at).0 in
    let long = length-map vs view in
    omega arith

pub found_view : (p : Data → Bool) (vs : List Value) (k : ℕ) (v : Value) → position p (map view vs) ≡ Some k
    → view (get_or vs k v) ≡ get_or (map view vs) k (table no_members)
found_view p vs k v at = sym (get_or-map view vs k v (table no_members) (found_within p vs k at))

-- the slack is asked for last
late : (i : ℕ) → get_or conditions i NotToml ≡ BadSlack → 7 < i
late zero h = cc
late (suc zero) h = cc
late (suc (suc zero)) h = cc
late (suc (suc (suc zero))) h = cc
late (suc (suc (suc (suc zero)))) h = cc
late (suc (suc (suc (suc (suc zero))))) h = cc
late (suc (suc (suc (suc (suc (suc zero)))))) h = cc
late (suc (suc (suc (suc (suc (suc (suc zero))))))) h = cc
late (suc (suc (suc (suc (suc (suc (suc (suc i)))))))) h = omega arith

names_apart : (d : Document) → first_place DuplicateName d ≡ None → HasDistinctNames d.nodes
unfolding holds duplicate_name
names_apart d none n w = (IsClear-from_none DuplicateName d none).nodes n w

cables_apart : (d : Document) → first_place DuplicateCable d ≡ None → HasDistinctCables d.cables
unfolding holds duplicate_cable
cables_apart d none k w = (or_parts _ _ ((IsClear-from_none DuplicateCable d none).cables k w)).1

-- where it is asked for, names and cables are apart
pub apart_at : (d : Document) (i : ℕ) → ((j : ℕ) → j < i → first_place (get_or conditions j NotToml) d ≡ None)
    → get_or conditions i NotToml ≡ BadSlack → AreApart d
apart_at d i clear is =
    let after : 7 < i = late i is in
    (names_apart d (clear 4 (omega arith)), cables_apart d (clear 7 (omega arith)))
