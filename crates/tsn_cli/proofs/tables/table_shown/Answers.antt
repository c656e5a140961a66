use Rattle.std.proofs.Common.{[], inl, inr}
use Rattle.tsn_cli.specs.Shown.{shown_output}
use Rattle.tsn_cli.specs.Tables.{TableAnswers}
use Rattle.tsn_cli.proofs.CheckLemmas.{goes_on_after_network}
use Rattle.tsn_cli.proofs.CommandLemmas.{shown_faults}
use Rattle.tsn_cli.proofs.InputLemmas.{both_answered, both_refused, both_unread, none_left}
use Rattle.tsn_cli.proofs.tables.table_shown.Goals as goal

pub returns-in_ok-answer_to-in-Ok-Taken : goal.returns-in_ok-answer_to-in-Ok-Taken
returns-in_ok-answer_to-in-Ok-Taken g c =
    let read = rw c.in-Ok-Taken.field-0-is at c.in-Ok-Taken.ensures in
    both_answered shown_output (TableAnswers c.args.table) _ _ [] none_left c.in-Ok-Taken.problem c.in-Ok-Taken.stated _ read
    (c.in-Ok-Taken.problem, read.0.reads.2, inr (c.in-Ok-Taken.stated, read.1.reads.2, c.in_ok-answer_to-in-Ok-Taken.ensures))

pub returns-in-Ok-Refused : goal.returns-in-Ok-Refused
returns-in-Ok-Refused g c =
    both_refused shown_output (TableAnswers c.args.table) _ _ [] none_left c.in-Ok-Refused.answer _ (λ file refused. refused)
    (λ file other problem states refused. (problem, states, inl refused)) (rw c.in-Ok-Refused.field-0-is at c.in-Ok-Refused.ensures)

pub returns-in-Err : goal.returns-in-Err
returns-in-Err g c =
    both_unread shown_output (TableAnswers c.args.table) _ _ [] none_left shown_faults (λ output none. none) goes_on_after_network c.in-Err.fault c.in-Err.ensures
