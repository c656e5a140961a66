use Rattle.std.proofs.Common.{◌≡◌, true, false, not, Some, None, refl, ap, sym, ◌∙◌, subst}
use Rattle.std.specs.Prelude.{is_some}
use Rattle.std.specs.List.{list_all}
use Rattle.tsn_model.specs.declared.fault.Place.{Place}
use Rattle.tsn_net.specs.Document.{value_at}
use Rattle.tsn_net.specs.DocumentView.{document_view, routes_view, step_view, one_step_view}
use Rattle.tsn_net.specs.Conditions.{holds, no_cable, routes_of, steps_of, has_cable}
use Rattle.tsn_net.specs.Matter.{first_gap}
use Rattle.tsn_net.proofs.MatterLemmas.{found_amiss}
use Rattle.tsn_net.proofs.document.Document.no_cable.Goals as goal

pub returns-in-Some : goal.returns-in-Some
unfolding holds no_cable
returns-in-Some c =
    let d = document_view c.args.self.now in
    let routes : routes_view c.routes_of.result.now ≡ routes_of (value_at d c.args.place) = c.routes_of.ensures ∙ ap routes_of c.value_at.ensures in
    let found : first_gap d.cables (steps_of (routes_of (value_at d c.args.place))) ≡ Some (step_view c.in-Some.step) =
    ap (λ rs. first_gap d.cables (steps_of rs)) (sym routes) ∙ sym c.in-Some.ensures in
    let Lacks : Place → Type 0 = λ p. true ≡ not (list_all (has_cable d.cables) (steps_of (routes_of (value_at d p)))) in
    let lacks : Lacks c.args.place =
    sym (sym (found_amiss (has_cable d.cables) (steps_of (routes_of (value_at d c.args.place)))) ∙ ap is_some found) in
    (subst (λ p. true ≡ no_cable d p) (sym c.in-Stream.is) (subst Lacks c.in-Stream.is lacks), (refl, found))

pub returns-in-None : goal.returns-in-None
unfolding holds no_cable
returns-in-None c =
    let d = document_view c.args.self.now in
    let routes : routes_view c.routes_of.result.now ≡ routes_of (value_at d c.args.place) = c.routes_of.ensures ∙ ap routes_of c.value_at.ensures in
    let found : first_gap d.cables (steps_of (routes_of (value_at d c.args.place))) ≡ None =
    ap (λ rs. first_gap d.cables (steps_of rs)) (sym routes) ∙ sym c.gap_along.ensures ∙ ap one_step_view c.in-None.is in
    let Has : Place → Type 0 = λ p. false ≡ not (list_all (has_cable d.cables) (steps_of (routes_of (value_at d p)))) in
    let has : Has c.args.place =
    sym (sym (found_amiss (has_cable d.cables) (steps_of (routes_of (value_at d c.args.place)))) ∙ ap is_some found) in
    (subst (λ p. false ≡ no_cable d p) (sym c.in-Stream.is) (subst Has c.in-Stream.is has), tt)
