use Rattle.std.proofs.Common.{◌≡◌, ◌≤◌, ℕ, List, Option, not, true, false, Some, None, length, option_map, refl, ap, sym, ◌∙◌, subst}
use Rattle.std.specs.Prelude.{is_some, is_none}
use Rattle.std.specs.List.{list_any, list_all, find}
use Rattle.std.proofs.lemmas.List.{length-map}
use Rattle.toml.specs.View.{view}
use Rattle.toml.specs.declared.value.Value.{Value}
use Rattle.tsn_net.specs.Document.{texts_of}
use Rattle.tsn_net.specs.DocumentView.{routes_view, steps_view, few_view}
use Rattle.tsn_net.specs.Conditions.{are_miscounted, is_long, is_name, names_along, few, different, steps_of, routes_of, routes_break_limit}
use Rattle.tsn_net.proofs.AloneLemmas.{alone_short}
use Rattle.tsn_net.proofs.Faultless.{map_none}
use Rattle.tsn_net.proofs.MatterLemmas.{found_any, right_count}
use Rattle.tsn_net.proofs.tables.route_limit.Goals as goal

some_mapped : (found : Option (List (List ℕ))) {count : ℕ} → option_map length found ≡ Some count → is_some found ≡ true
some_mapped None is = cc
some_mapped (Some route) is = refl

pub returns-in-Some : goal.returns-in-Some
returns-in-Some c =
    let vs = c.routes_of-routes.result.now in
    let routes = routes_of (view c.args.stream.now) in
    let is : routes_view vs ≡ routes = c.routes_of-routes.ensures in
    let count : length vs ≡ length routes = sym (length-map vs (λ (v : Value). texts_of (view v))) ∙ ap length is in
    let counted : are_miscounted routes ≡ false =
    right_count (length routes) (λ none. c.if-count-eq0.false (count ∙ none)) (subst (λ n. n ≤ 32) count c.if-count-gt32.false) in
    let found : option_map length (find is_long routes) ≡ Some c.in-Some.count =
    ap (λ rs. option_map length (find is_long rs)) (sym is) ∙ sym c.in-Some.ensures in
    let some : is_some (find is_long routes) ≡ true = some_mapped (find is_long routes) found in
    let long : list_any is_long routes ≡ true = sym (found_any is_long routes) ∙ some in
    let breaks : routes_break_limit routes ≡ true = rw (counted, long) in
    (sym breaks, (refl, (refl, c.requires, counted, found)))

pub returns-then-count-eq1 : goal.returns-then-count-eq1
returns-then-count-eq1 c =
    let vs = c.routes_of-routes.result.now in
    let routes = routes_of (view c.args.stream.now) in
    let is : routes_view vs ≡ routes = c.routes_of-routes.ensures in
    let count : length vs ≡ length routes = sym (length-map vs (λ (v : Value). texts_of (view v))) ∙ ap length is in
    let counted : are_miscounted routes ≡ false =
    right_count (length routes) (λ none. c.if-count-eq0.false (count ∙ none)) (subst (λ n. n ≤ 32) count c.if-count-gt32.false) in
    let lengths : option_map length (find is_long routes) ≡ None =
    ap (λ rs. option_map length (find is_long rs)) (sym is) ∙ sym c.long_route.ensures ∙ c.in_default.is in
    let short : list_any is_long routes ≡ false = sym (found_any is_long routes) ∙ ap is_some (map_none length (find is_long routes) lengths) in
    let named : not (list_all is_name (names_along routes)) ≡ false =
    ap (λ rs. not (list_all is_name (names_along rs))) (sym is) ∙ sym c.no_name_along.ensures.found ∙ ap is_some c.in_default-no_name_along.is in
    let one : length routes ≡ 1 = sym count ∙ c.if-count-eq1.true in
    let room : is_none (few (different (steps_of routes))) ≡ false = alone_short routes one short in
    let keeps : routes_break_limit routes ≡ false = rw (counted, short, named, room) in
    (sym keeps, tt)

pub returns-in-Some-different_steps : goal.returns-in-Some-different_steps
returns-in-Some-different_steps c =
    let vs = c.routes_of-routes.result.now in
    let routes = routes_of (view c.args.stream.now) in
    let is : routes_view vs ≡ routes = c.routes_of-routes.ensures in
    let count : length vs ≡ length routes = sym (length-map vs (λ (v : Value). texts_of (view v))) ∙ ap length is in
    let counted : are_miscounted routes ≡ false =
    right_count (length routes) (λ none. c.if-count-eq0.false (count ∙ none)) (subst (λ n. n ≤ 32) count c.if-count-gt32.false) in
    let lengths : option_map length (find is_long routes) ≡ None =
    ap (λ rs. option_map length (find is_long rs)) (sym is) ∙ sym c.long_route.ensures ∙ c.in_default.is in
    let short : list_any is_long routes ≡ false = sym (found_any is_long routes) ∙ ap is_some (map_none length (find is_long routes) lengths) in
    let named : not (list_all is_name (names_along routes)) ≡ false =
    ap (λ rs. not (list_all is_name (names_along rs))) (sym is) ∙ sym c.no_name_along.ensures.found ∙ ap is_some c.in_default-no_name_along.is in
    let fits : few (different (steps_of routes)) ≡ Some (steps_view c.in-Some-different_steps.field-0.items) =
    ap (λ rs. few (different (steps_of rs))) (sym is) ∙ sym c.different_steps.ensures ∙ ap few_view c.in-Some-different_steps.is in
    let room : is_none (few (different (steps_of routes))) ≡ false = ap is_none fits in
    let keeps : routes_break_limit routes ≡ false = rw (counted, short, named, room) in
    (sym keeps, tt)
