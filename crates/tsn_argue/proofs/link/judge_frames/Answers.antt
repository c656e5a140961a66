use Rattle.std.proofs.Common.{◌∷◌, length, get_or, Contains, ap, ◌∙◌, subst, inl, arith}
use Rattle.std.proofs.lemmas.Result.{err_from_is_err_and}
use Rattle.std.proofs.lemmas.List.{take_all, length-take-le}
use Rattle.tsn_model.specs.Argument.{AreOn}
use Rattle.tsn_argue.specs.Faults.{IsWrongFrame}
use Rattle.tsn_argue.proofs.LinkLemmas.{no_frame}
use Rattle.tsn_argue.proofs.JudgeFrames.{on_one, on_more, wrong_first, wrong_next, seen_more}
use Rattle.tsn_argue.proofs.link.judge_frames.Goals as goal

pub returns-in_err-judge_on : goal.returns-in_err-judge_on
returns-in_err-judge_on c =
    let p = err_from_is_err_and c.from_residual.result c.from_residual.ensures.1 in
    rw (p.1, p.2) (wrong_first c.args.timing.now c.args.link c.args.first c.args.others.now _ (inl c.in_err-judge_on.ensures))

pub loop-frame-init : goal.loop-frame-init
loop-frame-init c = (on_one c.args.timing.now c.args.link c.args.first c.in_ok-judge_on.ensures, c.clear.ensures)

pub judge_frame-requires : goal.judge_frame-requires
judge_frame-requires c =
    let below = c.loop-frame-test.true in
    let long = length-take-le c.loop-frame.frame-index c.args.others.now (omega (arith, below)) in
    omega (arith, ap length c.loop-frame.invariant.1, long, below, c.requires)

pub returns-in_err-judge_frame : goal.returns-in_err-judge_frame
returns-in_err-judge_frame c =
    let p = err_from_is_err_and c.from_residual-in_err-judge_frame.result c.from_residual-in_err-judge_frame.ensures.1 in
    let frame = get_or c.args.others.now c.loop-frame.frame-index no_frame in
    let wrong = subst (λ seen. IsWrongFrame c.args.timing.now c.args.link (c.args.first ∷ seen) frame c.in_err-judge_frame.field-0.0)
    c.loop-frame.invariant.1 c.in_err-judge_frame.ensures in
    rw (p.1, p.2) (wrong_next c.args.timing.now c.args.link c.args.first c.args.others.now c.loop-frame.frame-index no_frame _
    c.loop-frame-test.true c.loop-frame.invariant.0 wrong)

pub loop-frame-preserved : goal.loop-frame-preserved
loop-frame-preserved c =
    let found = c.in_ok-judge_frame.ensures in
    let frame = get_or c.args.others.now c.loop-frame.frame-index no_frame in
    let other = subst (λ seen. Contains (c.args.first ∷ seen) frame → ⊥) c.loop-frame.invariant.1 found.1 in (
      on_more c.args.timing.now c.args.link c.args.first c.args.others.now c.loop-frame.frame-index no_frame c.loop-frame-test.true
          c.loop-frame.invariant.0 found.0 other,
      seen_more c.loop-frame.seen c.judge_frame.new.seen c.args.others.now c.loop-frame.frame-index no_frame c.loop-frame-test.true
          c.loop-frame.invariant.1 found.2,
    )

pub returns : goal.returns
returns c =
    let whole = take_all c.loop-frame.frame-index c.args.others.now c.loop-frame-test.false in (
      subst (λ xs. AreOn c.args.timing.now c.args.link (c.args.first ∷ xs)) whole c.loop-frame.invariant.0,
      c.loop-frame.invariant.1 ∙ whole,
    )
