-- The law of proofs, the contract of a function in `tsn_laws/src/answers.rt`.
use Rattle.std.specs.Prelude.{ℕ}
use Rattle.tsn_model.specs.Network.{Network}
use Rattle.tsn_cert.specs.declared.plan.Plan.{Plan}
use Rattle.tsn_cert.specs.declared.argument.Argument.{Argument}
use Rattle.tsn_answer.specs.declared.proof.Proof.TheVariants.{Proved, Undercut}
use Rattle.tsn_answer.specs.Proof.{IsProof}

-- a right plan that is proved by some search is undercut by none, whatever the limits
abbrev pub ProvedIsNotUndercut : Type 0
ProvedIsNotUndercut = (network : Network) (limit other_limit : ℕ) (plan better : Plan) (argument : Argument) (count other_count : ℕ)
    → IsProof network limit plan (Proved argument count) → IsProof network other_limit plan (Undercut better other_count) → ⊥
