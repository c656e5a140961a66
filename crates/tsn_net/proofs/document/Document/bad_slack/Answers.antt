use Rattle.std.proofs.Common.{◌≡◌, true, false, Option, Some, None, ℕ, List, refl, ap, sym, ◌∙◌, subst}
use Rattle.std.specs.Prelude.{is_some}
use Rattle.std.specs.List.{list_any}
use Rattle.tsn_model.specs.declared.fault.Place.{Place}
use Rattle.tsn_net.specs.declared.schema.Key.TheVariants as key
use Rattle.tsn_net.specs.Document.{value_at, number_at}
use Rattle.tsn_net.specs.DocumentView.{document_view, routes_view, step_view, one_step_view}
use Rattle.tsn_net.specs.Conditions.{holds, bad_slack, routes_of, inner_steps, is_quick}
use Rattle.tsn_net.specs.Matter.{first_quick}
use Rattle.tsn_net.proofs.MatterLemmas.{found_any}
use Rattle.tsn_net.proofs.document.Document.bad_slack.Goals as goal

pub returns-in-Some : goal.returns-in-Some
unfolding holds bad_slack
returns-in-Some c =
    let d = document_view c.args.self.now in
    let slack = c.number_at-slack.result in
    let routes : routes_view c.routes_of-routes.result.now ≡ routes_of (value_at d c.args.place) =
    c.routes_of-routes.ensures ∙ ap routes_of c.value_at-stream.ensures in
    let octets : c.number_at-octets.result ≡ number_at key.Octets (value_at d c.args.place) =
    c.number_at-octets.ensures ∙ ap (number_at key.Octets) c.value_at-stream.ensures in
    let Quick : ℕ → Place → Option (List ℕ × List ℕ) =
    λ s p. first_quick s (number_at key.Octets (value_at d p)) d.nodes d.cables (inner_steps (routes_of (value_at d p))) in
    let same : first_quick slack c.number_at-octets.result d.nodes d.cables (inner_steps (routes_view c.routes_of-routes.result.now))
    ≡ Quick slack c.args.place =
    λ j. first_quick slack (octets j) d.nodes d.cables (inner_steps (routes j)) in
    let quick : Quick slack c.args.place ≡ Some (step_view c.in-Some.step) = sym same ∙ sym c.in-Some.ensures in
    let at_top : Quick (number_at key.Slack d.top) c.args.place ≡ Some (step_view c.in-Some.step) = ap (λ s. Quick s c.args.place)
    (sym c.number_at-slack.ensures) ∙ quick in
    let Is : Place → Type 0 = λ p. true ≡ list_any (is_quick (number_at key.Slack d.top) (number_at key.Octets (value_at d p)) d.nodes d.cables)
    (inner_steps (routes_of (value_at d p))) in
    let is : Is c.args.place =
    sym (sym (found_any (is_quick (number_at key.Slack d.top) (number_at key.Octets (value_at d c.args.place)) d.nodes d.cables)
    (inner_steps (routes_of (value_at d c.args.place)))) ∙ ap is_some at_top) in
    (subst (λ p. true ≡ bad_slack d p) (sym c.in-Stream.is) (subst Is c.in-Stream.is is), (refl, (c.number_at-slack.ensures, quick)))

pub returns-in-None : goal.returns-in-None
unfolding holds bad_slack
returns-in-None c =
    let d = document_view c.args.self.now in
    let slack = c.number_at-slack.result in
    let routes : routes_view c.routes_of-routes.result.now ≡ routes_of (value_at d c.args.place) =
    c.routes_of-routes.ensures ∙ ap routes_of c.value_at-stream.ensures in
    let octets : c.number_at-octets.result ≡ number_at key.Octets (value_at d c.args.place) =
    c.number_at-octets.ensures ∙ ap (number_at key.Octets) c.value_at-stream.ensures in
    let Quick : ℕ → Place → Option (List ℕ × List ℕ) =
    λ s p. first_quick s (number_at key.Octets (value_at d p)) d.nodes d.cables (inner_steps (routes_of (value_at d p))) in
    let same : first_quick slack c.number_at-octets.result d.nodes d.cables (inner_steps (routes_view c.routes_of-routes.result.now))
    ≡ Quick slack c.args.place =
    λ j. first_quick slack (octets j) d.nodes d.cables (inner_steps (routes j)) in
    let quick : Quick slack c.args.place ≡ None = sym same ∙ sym c.quick_step.ensures ∙ ap one_step_view c.in-None.is in
    let at_top : Quick (number_at key.Slack d.top) c.args.place ≡ None = ap (λ s. Quick s c.args.place) (sym c.number_at-slack.ensures) ∙ quick in
    let Is : Place → Type 0 = λ p. false ≡ list_any (is_quick (number_at key.Slack d.top) (number_at key.Octets (value_at d p)) d.nodes d.cables)
    (inner_steps (routes_of (value_at d p))) in
    let is : Is c.args.place =
    sym (sym (found_any (is_quick (number_at key.Slack d.top) (number_at key.Octets (value_at d c.args.place)) d.nodes d.cables)
    (inner_steps (routes_of (value_at d c.args.place)))) ∙ ap is_some at_top) in
    (subst (λ p. false ≡ bad_slack d p) (sym c.in-Stream.is) (subst Is c.in-Stream.is is), tt)
