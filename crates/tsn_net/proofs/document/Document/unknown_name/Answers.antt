use Rattle.std.proofs.Common.{◌≡◌, true, not, Some, refl, ap, sym, ◌∙◌, subst}
use Rattle.std.specs.List.{find, list_all}
use Rattle.tsn_model.specs.declared.fault.Place.{Place}
use Rattle.tsn_net.specs.Document.{value_at}
use Rattle.tsn_net.specs.DocumentView.{document_view, routes_view}
use Rattle.tsn_net.specs.Conditions.{holds, unknown_name, has_name, routes_of, names_along}
use Rattle.tsn_net.specs.Matter.{nodes_named}
use Rattle.tsn_net.proofs.document.Document.unknown_name.Goals as goal

pub returns-in-Some : goal.returns-in-Some
unfolding holds unknown_name
returns-in-Some c =
    let d = document_view c.args.self.now in
    let name = c.in-Some.name.now in
    let along : names_along (routes_view c.routes_of.result.now) ≡ names_along (routes_of (value_at d c.args.place)) =
    ap names_along (c.routes_of.ensures ∙ ap routes_of c.value_at.ensures) in
    let Found : Place → Type 0 = λ p. find (λ n. not (has_name d.nodes n)) (names_along (routes_of (value_at d p))) ≡ Some name in
    let Lacks : Place → Type 0 = λ p. true ≡ not (list_all (has_name d.nodes) (names_along (routes_of (value_at d p)))) in
    let found : Found c.args.place = ap (find (λ n. not (has_name d.nodes n))) (sym along) ∙ sym c.in-Some.ensures.first in
    let lacks : Lacks c.args.place = c.in-Some.ensures.found ∙ ap (λ r. not (list_all (has_name d.nodes) r)) along in (
      subst (λ p. true ≡ unknown_name d p) (sym c.in-Stream.is) (subst Lacks c.in-Stream.is lacks),
      (refl, subst (λ p. find (λ n. not (has_name d.nodes n)) (nodes_named d p) ≡ Some name) (sym c.in-Stream.is) (subst Found c.in-Stream.is found)),
    )
