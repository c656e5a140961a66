-- Steps back, and their indexes.
use Rattle.std.proofs.Common.{◌≡◌, ℕ, zero, suc, ◌-◌, ◌<◌, List, [], ◌∷◌, ◌++◌, length, map, Option, Some, None, refl, ◌∙◌, arith}
use Rattle.std.proofs.lemmas.List.{length-map, length-reverse}
use Rattle.std.proofs.lemmas.Grind.{reverse_onto}
use Rattle.tsn_diff.specs.declared.forest.Step.{Step}
use Rattle.tsn_diff.specs.Steps.{last_of, steps_back, indexes_of}

-- the indexes of one more step back come after it
pub indexes_of-cons : (s : Step) (ss : List Step) → indexes_of (s ∷ ss) ≡ indexes_of ss ++ s.index ∷ []
indexes_of-cons s ss = reverse_onto (map (λ (t : Step). t.index) ss) s.index []

pub length-indexes_of : (ss : List Step) → length (indexes_of ss) ≡ length ss
length-indexes_of ss = length-reverse (map (λ (t : Step). t.index) ss) ∙ length-map ss (λ (t : Step). t.index)

pub steps_none : (n : ℕ) (last : List (Option Step)) (i : ℕ) → last_of last i ≡ None → steps_back n last None i ≡ []
steps_none zero last i none = refl
steps_none (suc n) last i none = rw none refl

pub steps_some : (n : ℕ) (last : List (Option Step)) (i : ℕ) (step : Step) → 0 < n → last_of last i ≡ Some step → steps_back n last None i ≡ step ∷ steps_back (n - 1) last None step.from
steps_some zero last i step some is = absurd (omega arith)
steps_some (suc n) last i step some is = let e : suc n - 1 ≡ n = omega arith in rw (is, e) refl
