-- What a right plan claims: the target that a certificate of it has to show; and what the nodes of one are to show.
use Rattle.std.specs.Prelude.{◌≡◌, ◌≤◌, ℕ}
use Rattle.tsn_model.specs.Network.{Network, IsWellFormed}
use Rattle.tsn_model.specs.Schedule.{target_of}
use Rattle.tsn_cert.specs.declared.plan.Plan.{Plan}
use Rattle.tsn_cert.specs.declared.plan.TheConstants.{MAX_TIME}
use Rattle.tsn_check.specs.Plans.{IsPlanRight, offsets_in}
use Rattle.tsn_check.specs.declared.claim.Claim.{Claim}

pub record IsClaim (network : Network) (plan : Plan) (target : ℕ) : Type 0 where
  pub formed : IsWellFormed network
  pub right : IsPlanRight network plan
  pub aim : target ≡ target_of network (offsets_in plan)
  pub small : target ≤ MAX_TIME

-- the network is within its limits, and so is the target; and the plan is right
pub record IsWellPosed (claim : Claim) : Type 0 where
  pub formed : IsWellFormed claim.timing.now
  pub small : claim.target ≤ MAX_TIME
  pub right : IsPlanRight claim.timing.now claim.plan.now
