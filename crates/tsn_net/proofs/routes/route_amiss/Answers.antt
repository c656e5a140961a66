use Rattle.std.proofs.Common.{◌≡◌, ℕ, ◌-◌, ◌<◌, ◌≤◌, true, false, not, ◌&&◌, ◌||◌, List, [], ◌∷◌, map, length, get_or, slice_index_or, None, refl, ap, sym, ◌∙◌, subst, arith}
use Rattle.std.specs.Prelude.{is_some, nat_le}
use Rattle.std.specs.List.{list_all, find}
use Rattle.std.proofs.lemmas.Bool.Decides.{nat_tests}
use Rattle.std.proofs.lemmas.List.{length-map}
use Rattle.toml.specs.Data.{Data}
use Rattle.toml.specs.View.{view}
use Rattle.toml.specs.declared.value.Value.{Value}
use Rattle.tsn_net.specs.DocumentView.{texts_view}
use Rattle.tsn_net.specs.Conditions.{is_no_way, repeats, names_station, names_bridge, inner}
use Rattle.tsn_net.specs.Matter.{first_again}
use Rattle.tsn_net.proofs.MatterLemmas.{none_of}
use Rattle.tsn_net.proofs.RouteLemmas.{text_in, text-at}
use Rattle.tsn_net.proofs.routes.route_amiss.Goals as goal

too_few : (nodes : List Data) (route : List (List ℕ)) → length route < 2 → is_no_way nodes route ≡ true
too_few nodes [] few = refl
too_few nodes (x ∷ []) few = refl
too_few nodes (x ∷ y ∷ route) few = absurd (omega arith)

-- two names or more, none of them twice
module _ (nodes : List Data) (route : List (List ℕ)) (once : repeats route ≡ false) (two : 2 ≤ length route) where
  enough : nat_le 2 (length route) ≡ true
  enough = grind (arith, nat_tests)

  no_first : names_station nodes (slice_index_or route 0 []) ≡ false → is_no_way nodes route ≡ true
  no_first first = λ j.
      once j || not (((enough j && first j) && names_station nodes (slice_index_or route (length route - 1) [])) && list_all (names_bridge nodes) (inner route))

  module _ (first : names_station nodes (slice_index_or route 0 []) ≡ true) where
    no_last : names_station nodes (slice_index_or route (length route - 1) []) ≡ false → is_no_way nodes route ≡ true
    no_last last = λ j. once j || not (((enough j && first j) && last j) && list_all (names_bridge nodes) (inner route))

    between : names_station nodes (slice_index_or route (length route - 1) []) ≡ true
        → is_no_way nodes route ≡ not (list_all (names_bridge nodes) (inner route))
    between last = λ j. once j || not (((enough j && first j) && last j) && list_all (names_bridge nodes) (inner route))

at_least : (vs : List Value) → 2 ≤ length vs → 2 ≤ length (texts_view vs)
at_least vs two = subst (λ n. 2 ≤ n) (sym (length-map vs text_in)) two

first_at : (vs : List Value) (v : Value) → 2 ≤ length vs → v ≡ get_or vs 0 v → text_in v ≡ get_or (texts_view vs) 0 []
first_at vs v two is = text-at vs 0 v (omega arith) is

last_at : (vs : List Value) (v : Value) → 2 ≤ length vs → v ≡ get_or vs (length vs - 1) v
    → text_in v ≡ get_or (texts_view vs) (length (texts_view vs) - 1) []
last_at vs v two is =
    text-at vs (length vs - 1) v (omega arith) is ∙ ap (λ n. get_or (texts_view vs) (n - 1) []) (sym (length-map vs text_in))

pub returns-then-count-lt2 : goal.returns-then-count-lt2
returns-then-count-lt2 c =
    let vs = c.args.route.now in
    let same = length-map vs text_in in
    let few = subst (λ n. n < 2) (sym same) c.if-count-lt2.true in
    (sym (too_few (map view c.args.document.now.nodes.now) (texts_view vs) few), (refl, (sym same, c.if-count-lt2.true)))

pub returns-in-Some : goal.returns-in-Some
returns-in-Some c = (rw (← c.in-Some.ensures.twice), c.in-Some.ensures.so (map view c.args.document.now.nodes.now))

pub returns-then-not-names_station : goal.returns-then-not-names_station
returns-then-not-names_station c =
    let nodes = map view c.args.document.now.nodes.now in
    let route = texts_view c.args.route.now in
    let once : repeats route ≡ false = sym c.repeated.ensures.twice ∙ ap is_some c.in_default.is in
    let none : first_again route ≡ None = none_of (first_again route) (sym c.repeated.ensures.first ∙ ap is_some c.in_default.is) in
    let two = at_least c.args.route.now c.if-count-lt2.false in
    let at = c.text-first.ensures ∙ first_at c.args.route.now c.index-route-0.result c.if-count-lt2.false c.index-route-0.is in
    let station = sym c.names_station.ensures ∙ c.if-not-names_station.true in
    (sym (no_first nodes route once two (ap (names_station nodes) (sym at) ∙ station)), (refl, ((two, none), at, station)))

pub returns-then-not-names_station-2 : goal.returns-then-not-names_station-2
returns-then-not-names_station-2 c =
    let nodes = map view c.args.document.now.nodes.now in
    let route = texts_view c.args.route.now in
    let once : repeats route ≡ false = sym c.repeated.ensures.twice ∙ ap is_some c.in_default.is in
    let none : first_again route ≡ None = none_of (first_again route) (sym c.repeated.ensures.first ∙ ap is_some c.in_default.is) in
    let two = at_least c.args.route.now c.if-count-lt2.false in
    let from = c.text-first.ensures ∙ first_at c.args.route.now c.index-route-0.result c.if-count-lt2.false c.index-route-0.is in
    let first = ap (names_station nodes) (sym from) ∙ sym c.names_station.ensures ∙ c.if-not-names_station.false in
    let at = c.text-last.ensures ∙ last_at c.args.route.now c.index-route-count.result c.if-count-lt2.false c.index-route-count.is in
    let station = sym c.names_station-2.ensures ∙ c.if-not-names_station-2.true in
    (sym (no_last nodes route once two first (ap (names_station nodes) (sym at) ∙ station)), (refl, ((two, none), first, at, station)))

pub returns-in-Some-no_bridge_in : goal.returns-in-Some-no_bridge_in
returns-in-Some-no_bridge_in c =
    let nodes = map view c.args.document.now.nodes.now in
    let route = texts_view c.args.route.now in
    let once : repeats route ≡ false = sym c.repeated.ensures.twice ∙ ap is_some c.in_default.is in
    let none : first_again route ≡ None = none_of (first_again route) (sym c.repeated.ensures.first ∙ ap is_some c.in_default.is) in
    let two = at_least c.args.route.now c.if-count-lt2.false in
    let from = c.text-first.ensures ∙ first_at c.args.route.now c.index-route-0.result c.if-count-lt2.false c.index-route-0.is in
    let first = ap (names_station nodes) (sym from) ∙ sym c.names_station.ensures ∙ c.if-not-names_station.false in
    let to = c.text-last.ensures ∙ last_at c.args.route.now c.index-route-count.result c.if-count-lt2.false c.index-route-count.is in
    let last = ap (names_station nodes) (sym to) ∙ sym c.names_station-2.ensures ∙ c.if-not-names_station-2.false in
    let amiss = c.in-Some-no_bridge_in.ensures.found ∙ ap (λ names. not (list_all (names_bridge nodes) names)) c.inner.ensures in
    let found = ap (find (λ n. not (names_bridge nodes n))) (sym c.inner.ensures) ∙ sym c.in-Some-no_bridge_in.ensures.first in
    (amiss ∙ sym (between nodes route once two first last), (refl, ((two, none), first, last, found)))

pub returns-in-None : goal.returns-in-None
returns-in-None c =
    let nodes = map view c.args.document.now.nodes.now in
    let route = texts_view c.args.route.now in
    let once : repeats route ≡ false = sym c.repeated.ensures.twice ∙ ap is_some c.in_default.is in
    let two = at_least c.args.route.now c.if-count-lt2.false in
    let from = c.text-first.ensures ∙ first_at c.args.route.now c.index-route-0.result c.if-count-lt2.false c.index-route-0.is in
    let first = ap (names_station nodes) (sym from) ∙ sym c.names_station.ensures ∙ c.if-not-names_station.false in
    let to = c.text-last.ensures ∙ last_at c.args.route.now c.index-route-count.result c.if-count-lt2.false c.index-route-count.is in
    let last = ap (names_station nodes) (sym to) ∙ sym c.names_station-2.ensures ∙ c.if-not-names_station-2.false in
    let passes = c.in-None.ensures.found ∙ ap (λ names. not (list_all (names_bridge nodes) names)) c.inner.ensures in
    (passes ∙ sym (between nodes route once two first last), tt)
