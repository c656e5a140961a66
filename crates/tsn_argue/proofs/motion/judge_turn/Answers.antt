use Rattle.std.proofs.Common.{◌≡◌, ◌+ℤ◌, to_z, of_z, w64, inr, sym, ap, subst, ◌∙◌, arith}
use mir.Syntax.{w128}
use Rattle.std.proofs.lemmas.Int.{ints}
use Rattle.tsn_model.specs.Schedule.{IsConflict}
use Rattle.tsn_model.specs.Arcs.{arc_of}
use Rattle.tsn_model.specs.Argument.{IsOutOfReach, low_at, high_at, shown}
use Rattle.tsn_check.specs.declared.wrong.Wrong.TheVariants.{InReach}
use Rattle.tsn_argue.specs.Faults.{IsInReach}
use Rattle.tsn_argue.specs.State.{view_of}
use Rattle.tsn_argue.proofs.MotionLemmas.{turned_triple}
use Rattle.tsn_argue.proofs.motion.judge_turn.Goals as goal

pub arc_at-arc-requires : goal.arc_at-arc-requires
arc_at-arc-requires c =
    let same = turned_triple c.args.decision c.turned.result c.turned.ensures in
    subst (IsConflict c.args.basis.now.view.now.timing.now) (sym same) c.if-not-is_conflict.ensures

pub returns-then-least-most : goal.returns-then-least-most
unfolding shown
returns-then-least-most c =
    let view = view_of c.args.basis.now.view.now in
    let same_arc = c.arc_at-arc.ensures.is ∙ ap (arc_of c.args.basis.now.view.now.timing.now) c.turned.ensures in (
      (c.if-not-is_conflict.ensures, subst (IsOutOfReach view) same_arc (omega (arith, ints))),
      c.one.ensures.shown,
      c.one.ensures.facts,
    )

pub returns-else-least-most : goal.returns-else-least-most
returns-else-least-most c =
    let view = view_of c.args.basis.now.view.now in
    let arc = c.arc_at-arc.result in
    let same_arc = c.arc_at-arc.ensures.is ∙ ap (arc_of c.args.basis.now.view.now.timing.now) c.turned.ensures in
    let a = to_z w128 (of_z w128 (to_z w128 (of_z w128 c.least.result) +ℤ to_z w128 (of_z w128 (to_z w64 (of_z w64 arc.weight))))) in
    let low_is : a ≡ low_at view arc.from +ℤ arc.weight = omega (arith, ints) in
    let b = to_z w128 (of_z w128 c.greatest-most.result) in
    let most_is : b ≡ high_at view arc.to = omega (arith, ints) in
    let reach : IsInReach view arc (InReach arc.to a b) = (λ i. InReach arc.to (low_is i) (most_is i), omega (arith, ints)) in
    inr (c.if-not-is_conflict.ensures, subst (λ x. IsInReach view x (InReach arc.to a b)) same_arc reach)
