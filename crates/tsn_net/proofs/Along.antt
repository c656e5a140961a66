-- What stands along some routes, one route after another.
use Rattle.std.proofs.Common.{◌≡◌, ℕ, ◌+◌, ◌<◌, ◌≤◌, Bool, true, false, cond, List, [], ◌∷◌, length, get_or, drop, Option, Some, None, ap, sym, ◌∙◌}
use Rattle.std.specs.List.{find, flat_map}
use Rattle.std.specs.Option.{option_or}
use Rattle.std.proofs.lemmas.List.{drop_more, drop_all}
use Rattle.std.proofs.lemmas.List.Folds.{find-append}
use Rattle.toml.specs.View.{view}
use Rattle.toml.specs.declared.value.Value.{Value}
use Rattle.tsn_net.specs.Document.{texts_of}
use Rattle.tsn_net.specs.DocumentView.{routes_view}

-- the names of a route
abbrev pub route_in : Value → List (List ℕ)
route_in v = texts_of (view v)

-- the routes from the i-th on
pub routes-drop : (vs : List Value) (i : ℕ) (v : Value) → i < length vs → v ≡ get_or vs i v
    → routes_view (drop i vs) ≡ texts_of (view v) ∷ routes_view (drop (i + 1) vs)
routes-drop vs i v h is = ap routes_view (drop_more vs i v h) ∙ ap (λ w. texts_of (view w) ∷ routes_view (drop (i + 1) vs)) (sym is)

pub routes-past : (vs : List Value) (i : ℕ) → length vs ≤ i → routes_view (drop i vs) ≡ []
routes-past vs i done = ap routes_view (drop_all i vs done)

module _ {X : Type 0} (test : X → Bool) (f : List (List ℕ) → List X) (vs : List Value) (i : ℕ) where
  -- what a test finds from the i-th route on
  abbrev pub found_from : Option X
  found_from = find test (flat_map f (routes_view (drop i vs)))

  next_found : (v : Value) → i < length vs → v ≡ get_or vs i v
      → found_from ≡ option_or (find test (f (texts_of (view v)))) (find test (flat_map f (routes_view (drop (i + 1) vs))))
  next_found v h is =
      ap (λ rs. find test (flat_map f rs)) (routes-drop vs i v h is)
      ∙ find-append test (f (texts_of (view v))) (flat_map f (routes_view (drop (i + 1) vs)))

  pub stops_along : (v : Value) (names : List (List ℕ)) (x : X) (whole : Option X) → i < length vs → v ≡ get_or vs i v
      → names ≡ texts_of (view v) → find test (f names) ≡ Some x → found_from ≡ whole → Some x ≡ whole
  stops_along v names x whole h is named here all =
      let rest = find test (flat_map f (routes_view (drop (i + 1) vs))) in
      sym (ap (λ r. option_or r rest) (ap (λ ns. find test (f ns)) (sym named) ∙ here)) ∙ sym (next_found v h is) ∙ all

  pub goes_along : (v : Value) (names : List (List ℕ)) (whole : Option X) → i < length vs → v ≡ get_or vs i v
      → names ≡ texts_of (view v) → find test (f names) ≡ None → found_from ≡ whole
      → find test (flat_map f (routes_view (drop (i + 1) vs))) ≡ whole
  goes_along v names whole h is named none all =
      let rest = find test (flat_map f (routes_view (drop (i + 1) vs))) in
      sym (ap (λ r. option_or r rest) (ap (λ ns. find test (f ns)) (sym named) ∙ none)) ∙ sym (next_found v h is) ∙ all

  pub ends_along : (whole : Option X) → length vs ≤ i → found_from ≡ whole → None ≡ whole
  ends_along whole done all = sym (ap (λ rs. find test (flat_map f rs)) (routes-past vs i done)) ∙ all

module _ (test : List (List ℕ) → Bool) (vs : List Value) (i : ℕ) (v : Value) (names : List (List ℕ)) (whole : Option (List (List ℕ)))
    (h : i < length vs) (is : v ≡ get_or vs i v) (named : names ≡ texts_of (view v)) (all : find test (routes_view (drop i vs)) ≡ whole) where
  next_route : find test (routes_view (drop i vs)) ≡ cond (test names) (Some names) (find test (routes_view (drop (i + 1) vs)))
  next_route =
      ap (find test) (routes-drop vs i v h is)
      ∙ ap (λ ns. cond (test ns) (Some ns) (find test (routes_view (drop (i + 1) vs)))) (sym named)

  pub stops_at : test names ≡ true → Some names ≡ whole
  stops_at passes = sym (ap (λ b. cond b (Some names) (find test (routes_view (drop (i + 1) vs)))) passes) ∙ sym next_route ∙ all

  pub goes_past : test names ≡ false → find test (routes_view (drop (i + 1) vs)) ≡ whole
  goes_past fails = sym (ap (λ b. cond b (Some names) (find test (routes_view (drop (i + 1) vs)))) fails) ∙ sym next_route ∙ all

pub ends_at : (test : List (List ℕ) → Bool) (vs : List Value) (i : ℕ) (whole : Option (List (List ℕ))) → length vs ≤ i
    → find test (routes_view (drop i vs)) ≡ whole → None ≡ whole
ends_at test vs i whole done all = sym (ap (find test) (routes-past vs i done)) ∙ all
