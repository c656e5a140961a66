use Rattle.std.proofs.Common.{◌≡◌, List, [], ℤ, pos, inl, inr, arith}
use Rattle.std.proofs.lemmas.List.{ext_get_or}
use Rattle.std.proofs.lemmas.Grind.{common_steps}
use Rattle.tsn_model.proofs.Lists.{Contains-nil}
use Rattle.tsn_argue.specs.Numbers.{AreTouched}
use Rattle.tsn_argue.proofs.numbers.carry_over.Goals as goal

untouched : (base view : List ℤ) → AreTouched base view [] → view ≡ base
untouched base view are = ext_get_or (pos 0) view base are.even (λ i below. elim (are.same i) [
  | inl same ↦ same
  | inr has ↦ absurd (Contains-nil i has)
])

pub returns-clause-into : goal.returns-clause-into
returns-clause-into c =
    let done : c.loop-stream.touched.items ≡ [] = grind arith in
    untouched c.args.from.now c.loop-stream.into (rw done at c.loop-stream.invariant)

pub loop-stream-preserved : goal.loop-stream-preserved
loop-stream-preserved c = grind (arith, common_steps) steps 2000000
