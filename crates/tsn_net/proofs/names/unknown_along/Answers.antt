use Rattle.std.proofs.Common.{ℕ, Bool, List, map, not, option_map, ap, sym, ◌∙◌}
use Rattle.std.specs.Prelude.{is_some}
use Rattle.std.specs.List.{flat_map}
use Rattle.toml.specs.View.{view}
use Rattle.tsn_net.specs.DocumentView.{routes_view}
use Rattle.tsn_net.specs.Conditions.{has_name}
use Rattle.tsn_net.proofs.Along.{stops_along, goes_along, ends_along}
use Rattle.tsn_net.proofs.MatterLemmas.{found_amiss}
use Rattle.tsn_net.proofs.names.unknown_along.Goals as goal

pub returns-in-Some-clause-first : goal.returns-in-Some-clause-first
returns-in-Some-clause-first c =
    let test : List ℕ → Bool = λ n. not (has_name (map view c.args.document.now.nodes.now) n) in
    stops_along test (λ names. names) c.args.routes.now c.loop-route.route-index c.route-item.result _ c.in-Some.name.now _
    c.loop-route-test.true c.route-item.is
    c.texts_of.ensures (sym c.in-Some.ensures.first) c.loop-route.invariant

pub loop-route-preserved : goal.loop-route-preserved
loop-route-preserved c =
    let test : List ℕ → Bool = λ n. not (has_name (map view c.args.document.now.nodes.now) n) in
    goes_along test (λ names. names) c.args.routes.now c.loop-route.route-index c.route-item.result _ _
    c.loop-route-test.true c.route-item.is
    c.texts_of.ensures (sym c.unknown_in.ensures.first ∙ ap (option_map (λ name. name.now)) c.in_default.is) c.loop-route.invariant

pub returns-clause-first : goal.returns-clause-first
returns-clause-first c =
    let test : List ℕ → Bool = λ n. not (has_name (map view c.args.document.now.nodes.now) n) in
    ends_along test (λ names. names) c.args.routes.now c.loop-route.route-index _ c.loop-route-test.false c.loop-route.invariant

pub returns-in-Some-clause-found : goal.returns-in-Some-clause-found
returns-in-Some-clause-found c =
    ap is_some (returns-in-Some-clause-first c) ∙ found_amiss (has_name (map view c.args.document.now.nodes.now)) (flat_map (λ names. names)
    (routes_view c.args.routes.now))

pub returns-clause-found : goal.returns-clause-found
returns-clause-found c =
    ap is_some (returns-clause-first c)
    ∙ found_amiss (has_name (map view c.args.document.now.nodes.now)) (flat_map (λ names. names) (routes_view c.args.routes.now))
