use Rattle.std.proofs.Common.{sym, subst}
use Rattle.tsn_cert.specs.declared.certificate.Certificate.TheVariants.{Tree}
use Rattle.tsn_answer.specs.Optimum.{AnswersOptimum}
use Rattle.tsn_answer.specs.Answer.{IsAnswerReadAgain, IsAnswerShown, IsCertOf, IsOfBook}
use Rattle.tsn_answer.proofs.Deciding.{answer_read_again, certified_optimum, certified_shown, of_book}
use Rattle.tsn_planner.proofs.answering.certify.Goals as goal

pub returns-in-Ok-into_cert-clause-optimum : goal.returns-in-Ok-into_cert-clause-optimum
returns-in-Ok-into_cert-clause-optimum c =
    λ network limit done.
    subst (AnswersOptimum network) (sym c.answer_for.ensures.answer)
    (certified_optimum network limit c.args.book c.in-Ok.plan (Tree c.in-Ok-into_cert.cert) c.count-count.result c.in-Ok.ensures done)

pub returns-in-Ok-into_cert-clause-read_again : goal.returns-in-Ok-into_cert-clause-read_again
returns-in-Ok-into_cert-clause-read_again c =
    subst IsAnswerReadAgain (sym c.answer_for.ensures.answer) (answer_read_again c.in-Ok.plan (Tree c.in-Ok-into_cert.cert) c.count-count.result tt)

pub returns-in-Ok-into_cert-clause-shown : goal.returns-in-Ok-into_cert-clause-shown
returns-in-Ok-into_cert-clause-shown c =
    λ network limit done.
    let cert = c.in-Ok-into_cert.ensures in
    let of : IsCertOf c.args.book c.in-Ok-into_cert.cert = record { of_format_two = cert.format; same_target = cert.target; tree = cert.accepted; counted = cert.counted } in
    subst (IsAnswerShown network limit) (sym c.answer_for.ensures.answer)
    (certified_shown network limit c.args.book c.in-Ok.plan c.in-Ok-into_cert.cert c.count-count.result c.in-Ok.ensures c.count-count.ensures.count of done)

pub returns-in-Ok-into_cert-clause-method : goal.returns-in-Ok-into_cert-clause-method
returns-in-Ok-into_cert-clause-method c = λ effort. c.answer_for.ensures.method effort tt

pub returns-in-Ok-into_cert-clause-of_book : goal.returns-in-Ok-into_cert-clause-of_book
returns-in-Ok-into_cert-clause-of_book c =
    let cert = c.in-Ok-into_cert.ensures in
    let of : IsCertOf c.args.book c.in-Ok-into_cert.cert =
    record { of_format_two = cert.format; same_target = cert.target; tree = cert.accepted; counted = cert.counted } in
    subst (IsOfBook c.args.book) (sym c.answer_for.ensures.answer)
    (of_book c.args.book c.in-Ok.plan c.in-Ok-into_cert.cert c.count-count.result c.in-Ok.ensures of c.count-count.ensures.count)
