use Rattle.std.proofs.Common.{◌≡◌, ◌⊎◌, ℤ, pos, ◌≤ℤ◌, ◌<ℤ◌, true, false, to_z, of_z, List, rules, refl, ap, ◌∙◌, subst}
use Rattle.std.specs.Prelude.{MatchBool}
use Rattle.std.specs.Int.{w128}
use Rattle.std.proofs.lemmas.Int.{to_z-of_z}
use Rattle.tsn_model.specs.Argument.{first_ground}
use Rattle.tsn_argue.specs.Steps.{goal_of, AreCrossed}
use Rattle.tsn_argue.proofs.FirstView.{first_view}
use Rattle.tsn_argue.proofs.view.View.first.Goals as goal

pub returns : goal.returns
unfolding first_ground
returns c =
    let low_view = c.in_ok-low.ensures.view ∙ c.in_ok-releases.ensures in
    let low_base = c.in_ok-low.ensures.base ∙ c.in_ok-releases.ensures in
    let high_view = c.in_ok-high.ensures.view ∙ c.in_ok-latest_offsets.ensures in
    let high_base = c.in_ok-high.ensures.base ∙ c.in_ok-latest_offsets.ensures in
    let inner = to_z-of_z w128 c.greatest_flowspan.result (search rules) in
    let done = inner ∙ c.greatest_flowspan.ensures.value in
    first_view c.args.timing.now (goal_of c.args.aim.now) _ c.is_crossed.result
    (subst (λ x. x ≤ℤ pos c.args.timing.now.cycle) c.greatest_flowspan.ensures.value c.greatest_flowspan.ensures.high)
    refl
    (λ k. record { low = low_view k; high = high_view k; orders = c.none.ensures.view k; done_low = pos 0; done_high = done k })
    (λ k. record { low = low_base k; high = high_base k; orders = c.none.ensures.base k; done_low = pos 0; done_high = done k })
    refl
    (subst (λ (hs : List ℤ). MatchBool c.is_crossed.result (AreCrossed (first_ground c.args.timing.now (goal_of c.args.aim.now)).low hs)
    (AreCrossed (first_ground c.args.timing.now (goal_of c.args.aim.now)).low hs → ⊥)) high_view
    (subst (λ (ls : List ℤ). MatchBool c.is_crossed.result (AreCrossed ls c.in_ok-high.high.view)
    (AreCrossed ls c.in_ok-high.high.view → ⊥)) low_view c.is_crossed.ensures))
    (subst (λ x. MatchBool c.or_above-crossed.result ((c.is_crossed.result ≡ true) ⊎ (x <ℤ pos 0)) ((c.is_crossed.result ≡ false) × (pos 0 ≤ℤ x)))
    (ap (λ x. to_z w128 (of_z w128 x)) inner ∙ done) c.or_above-crossed.ensures)
