use Rattle.std.proofs.Common.{rules, [], Ok, inl, refl, string_bytes, arith}
use Rattle.tsn_cli.specs.RunOutput.{printed, written_bytes}
use Rattle.tsn_cli.proofs.PieceLemmas.{parted_beginning, parted_end}
use Rattle.tsn_cli.proofs.PrintLemmas.{cert_failed, early, is_early, of_err, of_ok, two_unwritten}
use Rattle.tsn_outcome.proofs.RunLemmas.{never_both, text_beginning, text_whole}
use Rattle.tsn_cli.proofs.write_files.write_plan.Goals as goal

pub returns-then-is_err-clause-written : goal.returns-then-is_err-clause-written
returns-then-is_err-clause-written g c =
    let part = text_beginning _ _ _ (string_bytes c.args.output.first) (search rules) (of_err c.write_whole.result (search rules) c.write_whole.ensures.beginning) in
    record {
      whole = λ done. absurd (done refl);
      unread = λ broken. absurd (never_both broken);
      device = λ device unbroken. search rules;
      beginning = λ failed. (never_both, (early c.args.output, is_early c.args.output, inl (part.0, part.1, two_unwritten _ _)));
    }

pub returns-in-Err-clause-written : goal.returns-in-Err-clause-written
returns-in-Err-clause-written g c =
    let e = c.in-Err.ensures in
    let part = parted_beginning _ _ _ _ e.put.1.1 in
    let plan = text_whole _ _ _ (string_bytes c.args.output.first) (search rules) (of_ok c.write_whole.result (search rules) c.write_whole.ensures.whole) in
    cert_failed c.args.output _ _ _ part.0 (search rules) plan (search rules) part.1 e.failures

pub returns-in-Ok-clause-written : goal.returns-in-Ok-clause-written
returns-in-Ok-clause-written g c =
    let e = c.in-Ok.ensures in
    let plan = text_whole _ _ _ (string_bytes c.args.output.first) (search rules) (of_ok c.write_whole.result (search rules) c.write_whole.ensures.whole) in
    record {
      whole = λ done. (printed written_bytes (Ok c.args.output), inl (refl, e.form), refl, (plan, (parted_end _ _ [] _ e.put.0, (refl, tt))), search rules);
      unread = λ broken. absurd (never_both broken);
      device = λ device unbroken. absurd (omega (arith, device, c.args.output.answer.not_device));
      beginning = λ failed. search rules;
    }
