use Rattle.std.proofs.Common.{ℕ, List, not, map, ap, sym, ◌∙◌}
use Rattle.std.specs.Prelude.{is_some}
use Rattle.std.specs.List.{find}
use Rattle.toml.specs.View.{view}
use Rattle.tsn_net.specs.DocumentView.{texts_view}
use Rattle.tsn_net.specs.Conditions.{names_bridge}
use Rattle.tsn_net.proofs.MatterLemmas.{found_amiss}
use Rattle.tsn_model.proofs.Rest.{rest_seen, rest_none, find_here, find_later}
use Rattle.tsn_net.proofs.RouteLemmas.{text_in}
use Rattle.tsn_net.proofs.routes.no_bridge_in.Goals as goal

pub returns-then-not-names_bridge-clause-first : goal.returns-then-not-names_bridge-clause-first
returns-then-not-names_bridge-clause-first c =
    let vs = c.args.names.now in
    let i = c.loop-value.value-index in
    let name = c.text-name.result.now in
    let next = rest_seen text_in vs i c.value-item.result name c.loop-value-test.true c.value-item.is c.text-name.ensures in
    find_here (λ (n : List ℕ). not (names_bridge (map view c.args.document.now.nodes.now) n)) _ _ name next _
    (ap not (sym c.names_bridge.ensures ∙ c.if-not-names_bridge.true)) c.loop-value.invariant

pub returns-then-not-names_bridge-clause-found : goal.returns-then-not-names_bridge-clause-found
returns-then-not-names_bridge-clause-found c = ap is_some (returns-then-not-names_bridge-clause-first c)
    ∙ found_amiss (names_bridge (map view c.args.document.now.nodes.now)) (texts_view c.args.names.now)

pub loop-value-preserved : goal.loop-value-preserved
loop-value-preserved c =
    let vs = c.args.names.now in
    let i = c.loop-value.value-index in
    let name = c.text-name.result.now in
    let next = rest_seen text_in vs i c.value-item.result name c.loop-value-test.true c.value-item.is c.text-name.ensures in
    find_later (λ (n : List ℕ). not (names_bridge (map view c.args.document.now.nodes.now) n)) _ _ name next _
    (ap not (sym c.names_bridge.ensures ∙ c.if-not-names_bridge.false)) c.loop-value.invariant

pub returns-clause-first : goal.returns-clause-first
returns-clause-first c =
    let vs = c.args.names.now in
    sym (ap (find (λ n. not (names_bridge (map view c.args.document.now.nodes.now) n)))
    (rest_none text_in vs c.loop-value.value-index c.loop-value-test.false)) ∙ c.loop-value.invariant

pub returns-clause-found : goal.returns-clause-found
returns-clause-found c = ap is_some (returns-clause-first c)
    ∙ found_amiss (names_bridge (map view c.args.document.now.nodes.now)) (texts_view c.args.names.now)
