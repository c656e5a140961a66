use Rattle.std.proofs.Common.{[], ◌∷◌, refl}
use Rattle.tsn_cli.specs.Shown.{shown_output}
use Rattle.tsn_cli.specs.Check.{CertAnswersBy}
use Rattle.tsn_cli.proofs.CheckLemmas.{goes_on_after_network, plan_not_refused}
use Rattle.tsn_outcome.proofs.RunLemmas.{Keeps-same}
use Rattle.tsn_cli.proofs.InputLemmas.{also_left, both_refused, both_taken, both_unread, ended, none_left}
use Rattle.tsn_cli.proofs.CommandLemmas.{shown_faults}
use Rattle.tsn_cli.proofs.certificate_view.certified_shown.Goals as goal

pub returns-in-Ok-Taken-clause-comes : goal.returns-in-Ok-Taken-clause-comes
returns-in-Ok-Taken-clause-comes g c =
    let answers = CertAnswersBy (g.V.CertificateView.shows c.args.view.now) in
    let read = rw c.in-Ok-Taken.field-0-is at c.in-Ok-Taken.ensures in
    both_taken shown_output answers _ _ _ c.in-Ok-Taken.problem c.in-Ok-Taken.stated _ read
    (ended shown_output answers (read.0.reads.0 ∷ read.1.reads.0 ∷ []) _ _ shown_faults
    (λ output answers. plan_not_refused read.1.reads.0 c.in-Ok-Taken.stated output read.1.reads.2 answers.1)
    (λ file shown judges. (c.in-Ok-Taken.problem, read.0.reads.2, (c.in-Ok-Taken.stated, read.1.reads.2, judges))) _ c.answer_on.ensures.judges)

pub returns-in-Ok-Refused-clause-comes : goal.returns-in-Ok-Refused-clause-comes
returns-in-Ok-Refused-clause-comes g c =
    both_refused shown_output (CertAnswersBy (g.V.CertificateView.shows c.args.view.now)) _ _ _ (also_left _ [] (Keeps-same _) refl none_left)
    c.in-Ok-Refused.answer _ (λ file refused. refused) (λ file other problem states refused. ((problem, states), refused))
    (rw c.in-Ok-Refused.field-0-is at c.in-Ok-Refused.ensures)

pub returns-in-Err-clause-comes : goal.returns-in-Err-clause-comes
returns-in-Err-clause-comes g c =
    both_unread shown_output (CertAnswersBy (g.V.CertificateView.shows c.args.view.now)) _ _ _ (also_left _ [] (Keeps-same _) refl none_left) shown_faults
    (λ output none. none) goes_on_after_network c.in-Err.fault c.in-Err.ensures
