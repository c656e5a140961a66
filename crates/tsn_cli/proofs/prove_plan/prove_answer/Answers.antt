use Rattle.std.proofs.Common.{string_bytes}
use Rattle.tsn_outcome.proofs.RunLemmas.{runs_with}
use Rattle.tsn_cli.specs.Prove.{ProveAnswers, ProveFinds, found_of}
use Rattle.tsn_cli.specs.RunOutput.{IsShown, printed}
use Rattle.tsn_cli.proofs.EndLemmas.{fault_ends, none_of_fault, value_told}
use Rattle.tsn_cli.proofs.ProveLemmas.{no_finding}
use Rattle.tsn_cli.proofs.prove_plan.prove_answer.Goals as goal

pub returns-in-Ok-clause-runs : goal.returns-in-Ok-clause-runs
returns-in-Ok-clause-runs g c = runs_with (printed string_bytes) (ProveAnswers c.args.limit) _ _ _ _ c.in-Ok.ensures.comes c.write_proof.ensures.written

pub returns-in-Ok-clause-found : goal.returns-in-Ok-clause-found
returns-in-Ok-clause-found g c =
    value_told found_of (ProveFinds c.args.limit) no_finding string_bytes IsShown _ _ c.in-Ok.output c.write_proof.result (ProveAnswers c.args.limit)
    (returns-in-Ok-clause-runs g c) c.in-Ok.ensures.knows c.write_proof.ensures.written c.write_proof.ensures.outcome (λ shown found is known same. is)

pub returns-in-Err-clause-runs : goal.returns-in-Err-clause-runs
returns-in-Err-clause-runs g c = fault_ends string_bytes _ _ _ _ (ProveAnswers c.args.limit) _ c.in-Err.fault c.in-Err.ensures.comes

pub returns-in-Err-clause-found : goal.returns-in-Err-clause-found
returns-in-Err-clause-found g c = none_of_fault found_of (ProveFinds c.args.limit) no_finding _ c.in-Err.fault
