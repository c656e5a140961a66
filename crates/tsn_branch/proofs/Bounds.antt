-- A root that is pruned shows what no schedule undercuts.
use Rattle.std.proofs.Common.{◌≡◌, ℕ, ◌≤◌, [], zero-le, sym, subst}
use Rattle.tsn_model.specs.Network.{Network, IsWellFormed}
use Rattle.tsn_model.specs.Schedule.{flowspan}
use Rattle.tsn_model.specs.Search.{Outcome, split, solved, pruned, tied, refuted}
use Rattle.tsn_model.proofs.Soundness.{leaf_sound, HoldsAll-root}
use Rattle.tsn_conflict.specs.Right.{HasProof}
use Rattle.tsn_branch.specs.Bound.{IsLowerBound, HasBoundAt}

nothing : (network : Network) (bound : ℕ) → bound ≡ 0 → IsLowerBound network bound
nothing network bound is = λ offsets valid. subst (λ n. n ≤ flowspan network offsets) (sym is) zero-le

pub lower_bound_by : (network : Network) → IsWellFormed network → (outcome : Outcome) (bound : ℕ) → HasProof network [] outcome → HasBoundAt outcome bound → IsLowerBound network bound
lower_bound_by network formed (split triple) bound proof is = nothing network bound is
lower_bound_by network formed (solved offsets least leaf chains) bound proof is = nothing network bound is
lower_bound_by network formed (pruned least leaf) bound proof is =
    λ offsets valid. subst (λ n. n ≤ flowspan network offsets) (sym is) (leaf_sound network formed offsets valid [] (HoldsAll-root network offsets) least leaf proof)
lower_bound_by network formed (tied least leaf chains) bound proof is = nothing network bound is
lower_bound_by network formed (refuted leaf) bound proof is = nothing network bound is
