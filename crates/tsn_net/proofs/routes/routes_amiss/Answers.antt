use Rattle.std.proofs.Common.{◌≡◌, ◌||◌, true, false, None, map, length, option_map, ap, sym, ◌∙◌}
use Rattle.std.specs.Prelude.{is_some}
use Rattle.std.specs.List.{list_any}
use Rattle.std.proofs.lemmas.List.{length-map}
use Rattle.toml.specs.View.{view}
use Rattle.toml.specs.declared.value.Value.{Value}
use Rattle.tsn_net.specs.Document.{texts_of}
use Rattle.tsn_net.specs.DocumentView.{texts_view, routes_view, entry_view}
use Rattle.tsn_net.specs.Conditions.{is_no_way, other_talker, second_entry, given_again}
use Rattle.tsn_net.proofs.AloneLemmas.{alone_fits}
use Rattle.tsn_net.proofs.MatterLemmas.{found_any, of_routes}
use Rattle.tsn_net.proofs.routes.routes_amiss.Goals as goal

pub returns-in-Some : goal.returns-in-Some
returns-in-Some c =
    let nodes = map view c.args.document.now.nodes.now in
    let routes = routes_view c.args.routes.now in
    let any : list_any (is_no_way nodes) routes ≡ true = sym (found_any (is_no_way nodes) routes) ∙ sym c.in-Some.ensures.0 in (
      sym (ap (λ b. ((b || is_some (other_talker routes)) || is_some (second_entry nodes routes)) || is_some (given_again routes)) any),
      (c.in-Some.ensures.1.0, of_routes nodes routes c.in-Some.matter (c.in-Some.ensures.1.1, c.in-Some.ensures.1.2, c.in-Some.ensures.1.3)),
    )

pub returns-then-routes-eq1 : goal.returns-then-routes-eq1
returns-then-routes-eq1 c =
    let nodes = map view c.args.document.now.nodes.now in
    let routes = routes_view c.args.routes.now in
    let any : list_any (is_no_way nodes) routes ≡ false =
    sym (found_any (is_no_way nodes) routes) ∙ sym c.no_way_in.ensures.0 ∙ ap is_some c.in_default.is in
    let one : length routes ≡ 1 = length-map c.args.routes.now (λ (v : Value). texts_of (view v)) ∙ c.if-routes-eq1.true in
    let fits = alone_fits nodes routes one any in
    let other : other_talker routes ≡ None = fits.0 in
    let second : second_entry nodes routes ≡ None = fits.1 in
    let again : given_again routes ≡ None = fits.2 in
    (rw (any, other, second, again), tt)

pub returns-in-None : goal.returns-in-None
returns-in-None c =
    let nodes = map view c.args.document.now.nodes.now in
    let routes = routes_view c.args.routes.now in
    let any : list_any (is_no_way nodes) routes ≡ false =
    sym (found_any (is_no_way nodes) routes) ∙ sym c.no_way_in.ensures.0 ∙ ap is_some c.in_default.is in
    let other : other_talker routes ≡ None = sym c.other_talker.ensures ∙ ap (option_map (λ name. name.now)) c.in_default-other_talker.is in
    let second : second_entry nodes routes ≡ None = sym c.second_entry.ensures ∙ ap entry_view c.in_default-second_entry.is in
    let again : given_again routes ≡ None = sym c.given_again.ensures ∙ ap (option_map (λ names. texts_view names.now)) c.in-None.is in
    (rw (any, other, second, again), tt)
