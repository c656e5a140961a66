use Rattle.std.proofs.Common.{refl, ap, arith}
use Rattle.std.proofs.lemmas.Int.{ints, clamps}
use Rattle.tsn_model.specs.Argument.{done_from, learned}
use Rattle.tsn_argue.specs.State.{view_of}
use Rattle.tsn_argue.proofs.ViewLemmas.{told_by, learns}
use Rattle.tsn_argue.proofs.view.View.raise_done.Goals as goal

pub returns : goal.returns
unfolding learned
returns c =
    let old = c.args.self.now in
    learns old _ (done_from c.args.number) c.requires tt refl refl refl
    (ap (λ x. record (view_of old) { done_low = x }) (omega (arith, ints, clamps, c.max-self.ensures)))
    (told_by _ _ _ _ _ c.or_above-self.ensures (λ past. omega (arith, ints, past)) (λ past. omega (arith, ints, past)))
