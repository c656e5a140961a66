use Rattle.std.proofs.Common.{refl, ap, subst, arith, ℕ, [], ◌∷◌}
use Rattle.tsn_model.specs.Network.{Network}
use Rattle.tsn_incumbent.specs.Running.{Fair, opening}
use Rattle.tsn_incumbent.proofs.Moves.{opens}
use Rattle.tsn_incumbent.proofs.incumbent.Incumbent.new.Goals as goal

pub of_words-requires : goal.of_words-requires
of_words-requires c =
    let network = c.of.result.value in
    let same = ap (λ (n : Network). n.cycle) c.of.ensures in
    (refl, subst (λ (n : ℕ). Fair network c.args.tellers n (opening network c.args.tellers ∷ [])) (omega (arith, same, c.cycle-word.ensures)) (opens network c.args.tellers))
