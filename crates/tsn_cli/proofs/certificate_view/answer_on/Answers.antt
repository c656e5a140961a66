use Rattle.std.proofs.Common.{rules, inl}
use Rattle.tsn_cert.specs.Told.{code_of}
use Rattle.tsn_cli.proofs.CheckLemmas.{fault_is}
use Rattle.tsn_cli.proofs.certificate_view.answer_on.Goals as goal

pub returns-clause-judges : goal.returns-clause-judges
returns-clause-judges g c =
    let whole = c.in_ok-bytes.ensures.whole in
    let given = rw c.deref.ensures.value at c.in-Err.ensures.certificate in
    let refused = c.in-Err.refused in
    record {
      reads = (
        c.in_ok-bytes.bytes.items,
        record { given = whole.0; ended = whole.1; short = whole.2 },
        inl (code_of refused, fault_is (code_of refused) _ given c.in_ok-answer-in-Err.ensures.memory, c.in_ok-answer-in-Err.ensures.line),
      );
      failures = search rules;
    }
