-- What a run of `prove` prints tells what was found of a plan.
use Rattle.std.proofs.Common.{◌≡◌, ◌⊎◌, ℕ, inl, inr, Ok, Err, Option, None, IfSome, String, Global, string_bytes, rules}
use Rattle.tsn_model.specs.Network.{Network}
use Rattle.tsn_cert.specs.declared.plan.Plan.{Plan}
use Rattle.tsn_device.specs.declared.device.ReadFault.{ReadFault}
use Rattle.tsn_outcome.specs.declared.outcome.Outcome.{Outcome}
use Rattle.tsn_outcome.specs.Said.{settled_of, status_of}
use Rattle.tsn_outcome.specs.Outcome.{outcome_of}
use Rattle.tsn_cli.specs.declared.run_output.RunOutput.{RunOutput}
use Rattle.tsn_cli.specs.RunOutput.{printed}
use Rattle.tsn_cli.specs.Prove.{FindsAs, FindsOf, Judges, RejectsClaim, counted, found_of}

-- of a file that is refused nothing is found
pub refused_none : (outcome : Outcome) → status_of outcome ≡ 3 → found_of outcome ≡ None
refused_none outcome three = search rules

-- nor where one wasn't read
pub no_finding : (fault : ReadFault) → found_of (outcome_of (Err fault)) ≡ None
no_finding fault = search rules

found_so : (outcome : Outcome) (count : Option ℕ) (P : Outcome → Type 0) → P outcome → IfSome (counted count outcome) P
found_so outcome count P holds = search rules

module _ (limit : ℕ) (network : Network) (stated : Plan) (output : RunOutput (String Global)) where
  -- what is printed of a plan that was judged answers to it
  pub judged : Judges limit network stated output
      → FindsOf limit network stated (printed string_bytes (Ok output)) ⊎ RejectsClaim network stated (printed string_bytes (Ok output))
  judged (inl told) = inl (told.0, (told.1.0, told.1.1, told.1.3))
  judged (inr (rejects, none)) = inr rejects

  -- and tells what is found of it
  pub finds : Judges limit network stated output
      → IfSome (found_of output.answer.outcome) (λ found. FindsAs limit network stated found (printed string_bytes (Ok output)))
  finds (inl told) =
      found_so output.answer.outcome (settled_of output.answer.outcome) (λ found. FindsAs limit network stated found (printed string_bytes (Ok output))) told
  finds (inr (rejects, none)) = rw none tt
