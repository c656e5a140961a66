use Rattle.std.proofs.Common.{◌≡◌, to_z, of_z, w64, inr, subst, arith}
use Rattle.std.proofs.lemmas.Int.{ints}
use Rattle.tsn_model.specs.declared.Arc.{Arc}
use Rattle.tsn_model.specs.Arcs.{arc_of}
use Rattle.tsn_argue.specs.Faults.{AsksMore}
use Rattle.tsn_check.specs.declared.wrong.Wrong.TheVariants.{Stronger}
use Rattle.tsn_argue.proofs.motion.judge_follow.Goals as goal

pub returns-else-other-arc : goal.returns-else-other-arc
returns-else-other-arc c =
    let network = c.args.basis.now.view.now.timing.now in
    let known = c.in_ok-arc.ensures in
    let a = to_z w64 (of_z w64 c.arc_of-other.result.weight) in
    let b = to_z w64 (of_z w64 c.in_ok-arc.arc.weight) in
    let a_is : a ≡ c.arc_of-other.result.weight = omega (arith, ints) in
    let b_is : b ≡ c.in_ok-arc.arc.weight = omega (arith, ints) in
    let wrong = Stronger c.args.weaker a b in
    let asks : AsksMore c.args.weaker c.arc_of-other.result c.in_ok-arc.arc wrong =
    inr (c.if-not-are_alike.ensures, λ i. Stronger c.args.weaker (a_is i) (b_is i), omega (arith, ints)) in
    inr (inr (
      known.has,
      c.if-not-is_conflict.ensures,
      subst (λ (arc : Arc). AsksMore c.args.weaker (arc_of network c.args.weaker) arc wrong) known.is
          (subst (λ (arc : Arc). AsksMore c.args.weaker arc c.in_ok-arc.arc wrong) c.arc_of-other.ensures.arc asks),
    ))
