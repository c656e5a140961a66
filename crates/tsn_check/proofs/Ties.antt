-- What is found of a leaf, as the fault of a node; and what the sums of chains show of a plan.
use Rattle.std.proofs.Common.{◌≡◌, ℕ, ◌+◌, ◌<◌, List, [], length, get_or, ◌∙◌, pos, ◌<ℤ◌, Option, Some, None, Ok, refl, inl, inr, sym, ap, subst, arith}
use Rattle.std.specs.Prelude.{IsSomeAnd}
use Rattle.std.proofs.lemmas.Int.{ints}
use Rattle.std.proofs.lemmas.List.{get_or_default}
use Rattle.tsn_model.specs.declared.Decision.{Decision}
use Rattle.tsn_model.specs.Network.{Network, stream_count}
use Rattle.tsn_model.specs.Schedule.{offset_of}
use Rattle.tsn_model.specs.Certificate.{Leaf, Proves, HasBound, AreChains, Ties, sum_on, chain_at, SumsAre, ShowsAfter}
use Rattle.tsn_cert.specs.declared.plan.Plan.{Plan}
use Rattle.tsn_cert.specs.declared.plan.Plan.TheVariants as plan
use Rattle.tsn_check.specs.Plans.{IsPlanRight, offsets_in, span_in}
use Rattle.tsn_check.specs.Faults.{HasChains, IsShort, IsNoTie}
use Rattle.tsn_check.specs.Steps.{FindsBound}
use Rattle.tsn_check.specs.declared.why.Shortfall.{Shortfall}
use Rattle.tsn_check.specs.declared.why.NodeFault.TheVariants as kinds
use Rattle.tsn_check.proofs.Refusals.{has_chains}

offsets_or : Plan → List ℕ
offsets_or (plan.Schedule span offsets) = offsets
offsets_or plan.None = []

schedule_offsets : (s span : ℕ) (planned offsets : List ℕ) → plan.Schedule s planned ≡ plan.Schedule span offsets → planned ≡ offsets
unfolding offsets_or
schedule_offsets s span planned offsets is = ap offsets_or is

-- where something is found of a leaf its chains are right
pub found_chains : (network : Network) (path : List Decision) (target : ℕ) (proof : Leaf) (found : Option Shortfall)
    → FindsBound network target path proof (Ok found) → HasChains network path proof
found_chains network path target proof None found = has_chains network target path proof found
found_chains network path target proof (Some short) found = found.0

-- where the plan is that there is no schedule nothing ties
pub none_no_tie : (network : Network) (path : List Decision) (proof : Leaf) (chains : List (List ℕ)) (whole : Plan) → whole ≡ plan.None
    → HasChains network path proof
    → IsNoTie network (offsets_in whole) path proof chains kinds.TieOfNone
none_no_tie network path proof chains whole is has = subst (λ p. IsNoTie network (offsets_in p) path proof chains kinds.TieOfNone) (sym is) (has, refl)

-- nor does a leaf that doesn't prove the plan's flowspan
pub low_no_tie : (network : Network) (path : List Decision) (proof : Leaf) (chains : List (List ℕ)) (whole : Plan) (span : ℕ) (offsets : List ℕ) (short : Shortfall)
    → whole ≡ plan.Schedule span offsets
    → IsPlanRight network whole → IsShort network path (span_in whole) proof short
    → IsNoTie network (offsets_in whole) path proof chains (kinds.TieTooLow short)
low_no_tie network path proof chains plan.None span offsets short is right low = cc
low_no_tie network path proof chains (plan.Schedule s planned) span offsets short is right low =
    inl (short, subst (λ target. IsShort network path target proof short) right.1 low, refl)

-- nor one whose chains don't show that no schedule on the path comes before the plan
pub sooner_no_tie : (network : Network) (path : List Decision) (proof : Leaf) (chains : List (List ℕ)) (whole : Plan) (span : ℕ) (offsets : List ℕ)
    → whole ≡ plan.Schedule span offsets
    → IsPlanRight network whole → Proves network path (span_in whole) proof → (ShowsAfter network path chains offsets → ⊥)
    → IsNoTie network (offsets_in whole) path proof chains kinds.TieSooner
sooner_no_tie network path proof chains plan.None span offsets is right proves sooner = cc
sooner_no_tie network path proof chains (plan.Schedule s planned) span offsets is right proves sooner =
    let same = schedule_offsets s span planned offsets is in
    inr (subst (λ target. Proves network path target proof) right.1 proves, λ after. sooner (subst (ShowsAfter network path chains) same after), refl)

-- a leaf that proves the plan's flowspan, with chains that show that no schedule on the path comes before it, is a tie
pub tie_made : (network : Network) (path : List Decision) (proof : Leaf) (chains : List (List ℕ)) (whole : Plan) (span : ℕ) (offsets : List ℕ) → whole ≡ plan.Schedule span offsets → IsPlanRight network whole
    → HasBound proof → Proves network path (span_in whole) proof → AreChains network path chains → ShowsAfter network path chains offsets
    → IsSomeAnd (offsets_in whole) (λ planned. Ties network path planned proof chains)
tie_made network path proof chains plan.None span offsets is right bounded proves are after = cc
tie_made network path proof chains (plan.Schedule s planned) span offsets is right bounded proves are after =
    let same = schedule_offsets s span planned offsets is in
    record { bounded = bounded; bound = subst (λ target. Proves network path target proof) right.1 proves; are_chains = are; after = subst (ShowsAfter network path chains) (sym same) after }

-- the chain that stands at a place of the list
pub chain_there : (chains : List (List ℕ)) (i : ℕ) (chain : List ℕ) → i < length chains → chain ≡ get_or chains i chain → chain ≡ chain_at chains i
chain_there chains i chain below is = is ∙ get_or_default chains i chain [] below

module _ (network : Network) (path : List Decision) (chains : List (List ℕ)) (offsets : List ℕ) where
  pub sums_more : (k : ℕ) → SumsAre network path chains offsets k → sum_on network path (chain_at chains k) k ≡ pos (offset_of offsets k) → SumsAre network path chains offsets (k + 1)
  sums_more k same here i below = grind arith

  -- a lesser sum at the first difference
  pub not_sooner : (k : ℕ) → k < length chains → k < stream_count network → SumsAre network path chains offsets k → sum_on network path (chain_at chains k) k <ℤ pos (offset_of offsets k)
      → ShowsAfter network path chains offsets → ⊥
  not_sooner k inside counted same less (inl past) = grind (arith, ints)
  not_sooner k inside counted same less (inr whole) = let is = whole.1 k counted in omega (arith, ints, is, less)
