use Rattle.std.proofs.Common.{◌≡◌, ℕ, ◌*◌, ◌<◌, pos, ◌+ℤ◌, ◌≤ℤ◌, List, [], ◌∷◌, ◌++◌, length, All, slice_index, Option, Some, refl, sym, ◌∙◌, subst, arith}
use Rattle.std.proofs.lemmas.Int.{ints}
use Rattle.std.proofs.lemmas.List.Elements.{All-nil, All-head, All-tail, All-push}
use Rattle.tsn_model.specs.declared.Arc.{Arc}
use Rattle.tsn_diff.specs.declared.forest.Step.{Step}
use Rattle.tsn_model.specs.Arcs.{arc_at}
use Rattle.tsn_diff.specs.Limits.{IsArcAmong}
use Rattle.tsn_model.specs.Arcs.{Leads, chain_sum, start_of}
use Rattle.tsn_diff.specs.Forest.{IsStep}
use Rattle.tsn_diff.specs.Steps.{last_of, Path, indexes_of}
use Rattle.tsn_diff.specs.Steps.Path.{here, back}
use Rattle.tsn_diff.proofs.Steps.{indexes_of-cons}

pub Leads-push : (arcs : List Arc) (start : ℕ) (chain : List ℕ) (middle index : ℕ) → Leads arcs start chain middle → (arc_at arcs index).from ≡ middle → Leads arcs start (chain ++ index ∷ []) (arc_at arcs index).to
Leads-push arcs start [] middle index l e = (e ∙ sym l, refl)
Leads-push arcs start (p ∷ ps) middle index l e = (l.0, Leads-push arcs (arc_at arcs p).to ps middle index l.1 e)

pub chain_sum-push : (arcs : List Arc) (chain : List ℕ) (index : ℕ) → chain_sum arcs (chain ++ index ∷ []) ≡ chain_sum arcs chain +ℤ (arc_at arcs index).weight
chain_sum-push arcs [] index = omega (arith, ints)
chain_sum-push arcs (p ∷ ps) index = omega (arith, ints, chain_sum-push arcs ps index)

pub start_of-leads : (arcs : List Arc) (start : ℕ) (chain : List ℕ) (end : ℕ) → Leads arcs start chain end → start_of arcs chain end ≡ start
start_of-leads arcs start [] end l = sym l
start_of-leads arcs start (p ∷ ps) end l = l.0

-- no chain weighs more than its length times the greatest weight
pub chain_sum-le : (arcs : List Arc) (n : ℕ) (chain : List ℕ) → All (IsArcAmong n) arcs → All (λ index. index < length arcs) chain → chain_sum arcs chain ≤ℤ pos (1210000000 * length chain)
chain_sum-le arcs n [] among indexes = omega (arith, ints)
chain_sum-le arcs n (p ∷ ps) among indexes =
    let rest = chain_sum-le arcs n ps among (All-tail (λ index. index < length arcs) p ps indexes) in
    let first = (among p (record { from = 0; to = 0; weight = pos 0 }) (All-head (λ index. index < length arcs) p ps indexes)).weight_to in
    omega (arith, ints, first, rest)

module _ (arcs : List Arc) (offsets : List ℕ) (last : List (Option Step)) (steps : (stream : ℕ) (step : Step) → last_of last stream ≡ Some step → IsStep arcs offsets stream step) where
  -- the steps back, as a chain, lead to the stream
  pub leads_of : {i j : ℕ} {ss : List Step} → Path last i ss j → Leads arcs j (indexes_of ss) i
  leads_of here = refl
  leads_of {i} {j} (back {step = s} {steps = ss} h p) =
      let f = steps i s h in
      rw indexes_of-cons (subst (λ x. Leads arcs j (indexes_of ss ++ s.index ∷ []) x) f.ends (Leads-push arcs j (indexes_of ss) s.from s.index (leads_of p) f.begins))

  pub indexes_in : {i j : ℕ} {ss : List Step} → Path last i ss j → All (λ index. index < length arcs) (indexes_of ss)
  indexes_in here = All-nil (λ index. index < length arcs)
  indexes_in {i} (back {step = s} {steps = ss} h p) =
      rw indexes_of-cons (All-push (λ index. index < length arcs) (indexes_of ss) s.index (indexes_in p) (steps i s h).index_in)

  -- a stream's offset is no more than its chain explains
  pub explained : {i j : ℕ} {ss : List Step} → Path last i ss j → pos (slice_index offsets i) ≤ℤ (pos (slice_index offsets j) +ℤ chain_sum arcs (indexes_of ss))
  explained here = omega (arith, ints)
  explained {i} (back {step = s} {steps = ss} h p) =
      rw (indexes_of-cons, chain_sum-push) (omega (arith, ints, (steps i s h).explains, explained p))
