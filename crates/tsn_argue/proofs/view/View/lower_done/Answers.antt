use Rattle.std.proofs.Common.{refl, ap, arith}
use Rattle.std.proofs.lemmas.Int.{ints, clamps}
use Rattle.tsn_model.specs.Argument.{done_until, learned}
use Rattle.tsn_argue.specs.State.{view_of}
use Rattle.tsn_argue.proofs.ViewLemmas.{told_by, learns}
use Rattle.tsn_argue.proofs.view.View.lower_done.Goals as goal

pub returns : goal.returns
unfolding learned
returns c =
    let old = c.args.self.now in
    learns old _ (done_until c.args.number) c.requires tt refl refl refl
    (ap (λ x. record (view_of old) { done_high = x }) (omega (arith, ints, clamps, c.min-self.ensures)))
    (told_by _ _ _ _ _ c.or_above-self.ensures (λ past. omega (arith, ints, past)) (λ past. omega (arith, ints, past)))
