-- A schedule that was found, as a look.
use Rattle.std.proofs.Common.{ℕ, ◌<◌, List, All, Option, subst, arith}
use Rattle.tsn_model.specs.declared.Decision.{Decision}
use Rattle.tsn_model.specs.Network.{Network}
use Rattle.tsn_model.specs.Search.{Outcome, split, solved, pruned, tied, refuted}
use Rattle.tsn_timing.specs.Solution.{Solution}
use Rattle.tsn_branch.specs.Links.{shared_links, IsUnloaded}
use Rattle.tsn_branch.specs.Look.{AreLeast, IsLook, IsUntied}
use Rattle.tsn_branch.proofs.Leasts.{least_same}
use Rattle.tsn_branch.specs.Descent.{Closes, IsSolution}

-- where no link is loaded
module _ (network : Network) (path : List Decision) (least_offsets : List ℕ) (end target : ℕ) (best : Option Solution) where
  pub solution_found : (outcome : Outcome) → end < target → AreLeast network path least_offsets → All (IsUnloaded network least_offsets target) (shared_links network) → IsUntied network least_offsets best
      → IsSolution network path end outcome → Closes outcome × IsLook network path target best outcome
  solution_found (split triple) below is unloaded untied never = absurd never
  solution_found (solved offsets bound leaf chains) below is unloaded untied (least, valid, same, span, shown, shows) =
      let one = least_same network path least_offsets offsets is least in (
        tt,
        (
          least,
          valid,
          span,
          omega arith,
          shown,
          subst (λ os. All (IsUnloaded network os target) (shared_links network)) one unloaded,
          shows,
          subst (λ os. IsUntied network os best) one untied,
        ),
      )
  solution_found (pruned bound leaf) below is unloaded untied never = absurd never
  solution_found (tied bound leaf chains) below is unloaded untied never = absurd never
  solution_found (refuted leaf) below is unloaded untied never = absurd never
