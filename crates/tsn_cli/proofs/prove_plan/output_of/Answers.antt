use Rattle.std.proofs.Common.{rules, [], ◌∷◌, inl, inr, string_bytes, ap, ◌∙◌}
use Rattle.tsn_cli.specs.Prove.{ProveAnswers, found_of}
use Rattle.tsn_cli.specs.RunOutput.{printed}
use Rattle.tsn_cli.proofs.CheckLemmas.{goes_on_after_network}
use Rattle.tsn_cli.proofs.InputLemmas.{both_answered, both_refused, both_unread, none_left, refused_both}
use Rattle.tsn_cli.proofs.EndLemmas.{printed_faults, refused_line, some_along}
use Rattle.tsn_cli.proofs.ProveLemmas.{finds, judged, refused_none}
use Rattle.tsn_cli.proofs.prove_plan.output_of.Goals as goal

pub returns-in_ok-output-in-Ok-Taken-clause-comes : goal.returns-in_ok-output-in-Ok-Taken-clause-comes
returns-in_ok-output-in-Ok-Taken-clause-comes g c =
    let read = rw c.in-Ok-Taken.field-0-is at c.in-Ok-Taken.ensures in
    both_answered (printed string_bytes) (ProveAnswers c.args.limit) _ _ [] none_left c.in-Ok-Taken.problem c.in-Ok-Taken.stated _ read
    (c.in-Ok-Taken.problem, read.0.reads.2, inr (c.in-Ok-Taken.stated, read.1.reads.2, judged _ _ _ c.in_ok-output-in-Ok-Taken.field-0 c.in_ok-output-in-Ok-Taken.ensures))

pub returns-in_ok-output-in-Ok-Taken-clause-knows : goal.returns-in_ok-output-in-Ok-Taken-clause-knows
returns-in_ok-output-in-Ok-Taken-clause-knows g c =
    let read = rw c.in-Ok-Taken.field-0-is at c.in-Ok-Taken.ensures in
    let network = read.0.reads in
    let plan = read.1.reads in
    some_along (found_of c.in_ok-output-in-Ok-Taken.field-0.answer.outcome) _ _ (finds _ _ _ c.in_ok-output-in-Ok-Taken.field-0 c.in_ok-output-in-Ok-Taken.ensures)
    (λ found tells. inl (inr (inr (
      network.0,
      network.1,
      inr (inr (plan.0, plan.1, (c.in-Ok-Taken.problem, network.2, (c.in-Ok-Taken.stated, plan.2, tells)))),
    ))))

pub returns-in-Ok-Refused-clause-comes : goal.returns-in-Ok-Refused-clause-comes
returns-in-Ok-Refused-clause-comes g c =
    let e = c.alone.ensures in
    let outcome = c.in-Ok-Refused.answer.outcome in
    both_refused (printed string_bytes) (ProveAnswers c.args.limit) _ _ [] none_left c.in-Ok-Refused.answer c.alone.result
    (λ file refused. (refused.0, refused.1, refused_line string_bytes c.alone.result outcome _ e.answer e.first (search rules) refused.2))
    (λ file other problem states refused. (
      problem,
      states,
      inl (refused.0, refused.1, refused_line string_bytes c.alone.result outcome _ e.answer e.first (search rules) refused.2),
    ))
    (rw c.in-Ok-Refused.field-0-is at c.in-Ok-Refused.ensures)

pub returns-in-Ok-Refused-clause-knows : goal.returns-in-Ok-Refused-clause-knows
returns-in-Ok-Refused-clause-knows g c =
    let three = refused_both _ _ c.in-Ok-Refused.answer (rw c.in-Ok-Refused.field-0-is at c.in-Ok-Refused.ensures) in
    rw (ap found_of c.alone.ensures.answer ∙ refused_none c.in-Ok-Refused.answer.outcome three) tt

pub returns-in-Err-clause-comes : goal.returns-in-Err-clause-comes
returns-in-Err-clause-comes g c =
    both_unread (printed string_bytes) (ProveAnswers c.args.limit) _ _ [] none_left (printed_faults string_bytes) (λ output none. none) goes_on_after_network
    c.in-Err.fault c.in-Err.ensures
