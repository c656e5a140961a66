use Rattle.std.proofs.Common.{◌≡◌, List, [], ◌∷◌, ℤ, ◌+ℤ◌, ◌-ℤ◌, ap, ◌∙◌, arith}
use Rattle.std.proofs.lemmas.Int.{ints}
use Rattle.tsn_model.specs.declared.Arc.{Arc}
use Rattle.tsn_model.specs.Argument.{Fact, View, from, until, low_at, high_at, shown, shown_by}
use Rattle.tsn_argue.specs.State.{view_of}
use Rattle.tsn_argue.proofs.motion.judge_go.Goals as goal

by_arc : (view : View) (arc : Arc) (facts : List Fact) (low high : ℤ) → facts ≡ from arc.to low ∷ until arc.from high ∷ []
    → low ≡ low_at view arc.from +ℤ arc.weight → high ≡ high_at view arc.to -ℤ arc.weight → facts ≡ shown_by view arc
unfolding shown_by
by_arc view arc facts low high are low_is high_is = are ∙ (λ i. from arc.to (low_is i) ∷ until arc.from (high_is i) ∷ [])

pub returns : goal.returns
unfolding shown
returns c =
    let view = view_of c.args.basis.now.view.now in
    let known = c.in_ok-arc.ensures in (
      known.has,
      by_arc view c.in_ok-arc.arc _ _ _ c.two.ensures.shown (omega (arith, ints)) (omega (arith, ints)) ∙ ap (shown_by view) known.is,
      c.two.ensures.facts,
    )
