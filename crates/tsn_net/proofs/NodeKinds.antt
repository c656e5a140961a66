-- No node is both a station and a bridge.
use Rattle.std.proofs.Common.{◌≡◌, ℕ, ◌<◌, Bool, true, false, ◌&&◌, List, length, get_or, take, Option, Some, None, ap, sym, ◌∙◌, subst, inl, inr, arith}
use Rattle.std.specs.Prelude.{codes, unwrap_or, position}
use Rattle.std.specs.Option.{option_map_or}
use Rattle.std.specs.Str.{bytes_eq}
use Rattle.std.proofs.lemmas.Bool.{false≢true, and_parts, cases_lt}
use Rattle.std.proofs.lemmas.List.{get_or-take, length-take}
use Rattle.std.proofs.lemmas.Slice.Eq.{bytes_eq-Decides}
use Rattle.toml.specs.Data.{Data, string, integer, float, boolean, datetime, array, table, no_members, get}
use Rattle.tsn_net.specs.declared.schema.Key.TheVariants as key
use Rattle.tsn_net.specs.Schema.{name_of, is_this_text, is_station, is_bridge}
use Rattle.tsn_net.specs.Document.{text_at}
use Rattle.tsn_net.specs.Conditions.{names_station, names_bridge}
use Rattle.tsn_net.specs.Problem.{name_of_table, HasDistinctNames}
use Rattle.tsn_net.proofs.Found.{found}
use Rattle.tsn_net.proofs.StepLemmas.{bool_cases}
use Rattle.tsn_net.proofs.WellFormedDelays.{fails_at}

two_texts : (s : List ℕ) → bytes_eq s (codes "station") ≡ true → bytes_eq s (codes "bridge") ≡ true → ⊥
two_texts s first second =
    let one = (bytes_eq-Decides s (codes "station")).0 first in
    let other : bytes_eq (codes "station") (codes "bridge") ≡ true = ap (λ t. bytes_eq t (codes "bridge")) (sym one) ∙ second in
    false≢true other

two_kinds : (v : Data) → is_this_text (codes "station") v ≡ true → is_this_text (codes "bridge") v ≡ true → ⊥
two_kinds (string s) first second = two_texts s first second
two_kinds (integer s) first second = false≢true first
two_kinds (float s) first second = false≢true first
two_kinds (boolean s) first second = false≢true first
two_kinds (datetime s) first second = false≢true first
two_kinds (array s) first second = false≢true first
two_kinds (table s) first second = false≢true first

one_kind : (found : Option Data) → option_map_or (is_this_text (codes "station")) found false ≡ true
    → option_map_or (is_this_text (codes "bridge")) found false ≡ true → ⊥
one_kind None first second = false≢true first
one_kind (Some v) first second = two_kinds v first second

module _ (nodes : List Data) (distinct : HasDistinctNames nodes) (name : List ℕ) where
  abbrev node : ℕ → Data
  node i = get_or nodes i (table no_members)

  -- of two nodes one isn't named as the other
  named_apart : (i j : ℕ) → i < j → j < length nodes → bytes_eq (text_at key.Name (node i)) name ≡ true → bytes_eq (text_at key.Name (node j)) name ≡ true → ⊥
  named_apart i j before below first second =
      let one : text_at key.Name (node i) ≡ name = (bytes_eq-Decides (text_at key.Name (node i)) name).0 first in
      let other : text_at key.Name (node j) ≡ name = (bytes_eq-Decides (text_at key.Name (node j)) name).0 second in
      let inside : i < length (take j nodes) = let long = length-take j nodes in omega arith in
      let differ = fails_at (λ t. bytes_eq (name_of_table (node j)) (text_at key.Name t)) (take j nodes) i (table no_members) inside (distinct j below) in
      let at : get_or (take j nodes) i (table no_members) ≡ node i = get_or-take j nodes i (table no_members) before in
      let same : bytes_eq (text_at key.Name (node j)) (text_at key.Name (get_or (take j nodes) i (table no_members))) ≡ true =
      (bytes_eq-Decides _ _).1 (other ∙ sym (ap (text_at key.Name) at ∙ one)) in
      false≢true (sym differ ∙ same)

  both : names_station nodes name ≡ true → names_bridge nodes name ≡ true → ⊥
  both station bridge =
      let station_test : Data → Bool = λ n. bytes_eq (text_at key.Name n) name && is_station n in
      let bridge_test : Data → Bool = λ n. bytes_eq (text_at key.Name n) name && is_bridge n in
      let i = unwrap_or (position station_test nodes) 0 in
      let j = unwrap_or (position bridge_test nodes) 0 in
      let f = found station_test nodes (table no_members) station in
      let g = found bridge_test nodes (table no_members) bridge in
      let f_parts = and_parts (bytes_eq (text_at key.Name (node i)) name) (is_station (node i)) f.1 in
      let g_parts = and_parts (bytes_eq (text_at key.Name (node j)) name) (is_bridge (node j)) g.1 in
      elim (cases_lt i j) [
        | inl before ↦ named_apart i j before g.0 f_parts.0 g_parts.0
        | inr rest ↦ elim (cases_lt j i) [
          | inl after ↦ named_apart j i after f.0 g_parts.0 f_parts.0
          | inr least ↦
              let same : j ≡ i = omega arith in
              one_kind (get (name_of key.Kind) (node i)) f_parts.1 (subst (λ n. is_bridge (node n) ≡ true) same g_parts.1)
        ]
      ]

  pub station_no_bridge : names_station nodes name ≡ true → names_bridge nodes name ≡ false
  station_no_bridge station = elim (bool_cases (names_bridge nodes name)) [
    | inl bridge ↦ absurd (both station bridge)
    | inr none ↦ none
  ]
