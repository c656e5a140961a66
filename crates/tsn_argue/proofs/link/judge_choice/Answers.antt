use Rattle.std.proofs.Common.{length, get_or, Contains, ap, subst, arith}
use Rattle.std.proofs.lemmas.Result.{err_from_is_err_and}
use Rattle.std.proofs.lemmas.List.{length-take-le}
use Rattle.tsn_argue.specs.Faults.{IsWrongChoice}
use Rattle.tsn_argue.proofs.LinkLemmas.{no_frame}
use Rattle.tsn_argue.proofs.JudgeFrames.{among_none, among_more, wrong_among, some_all, seen_more}
use Rattle.tsn_argue.proofs.link.judge_choice.Goals as goal

pub loop-frame-init : goal.loop-frame-init
loop-frame-init c = (among_none c.args.frames.now, c.clear.ensures)

pub judge_one-requires : goal.judge_one-requires
judge_one-requires c =
    let below = c.loop-frame-test.true in
    let long = length-take-le c.loop-frame.frame-index c.args.some.now (omega (arith, below)) in
    omega (arith, ap length c.loop-frame.invariant.1, long, below, c.requires.few)

pub returns-in_err-judge_one : goal.returns-in_err-judge_one
returns-in_err-judge_one c =
    let p = err_from_is_err_and c.from_residual.result c.from_residual.ensures.1 in
    let frame = get_or c.args.some.now c.loop-frame.frame-index no_frame in
    let wrong = subst (λ seen. IsWrongChoice c.args.frames.now seen frame c.in_err-judge_one.field-0.0) c.loop-frame.invariant.1 c.in_err-judge_one.ensures in
    rw (p.1, p.2) (wrong_among c.args.frames.now c.args.some.now c.loop-frame.frame-index no_frame _ c.loop-frame-test.true
    c.loop-frame.invariant.0 wrong)

pub loop-frame-preserved : goal.loop-frame-preserved
loop-frame-preserved c =
    let found = c.in_ok-judge_one.ensures in
    let frame = get_or c.args.some.now c.loop-frame.frame-index no_frame in
    let new = subst (λ seen. Contains seen frame → ⊥) c.loop-frame.invariant.1 found.1 in (
      among_more c.args.frames.now c.args.some.now c.loop-frame.frame-index no_frame c.loop-frame-test.true c.loop-frame.invariant.0 found.0 new,
      seen_more c.loop-frame.seen c.judge_one.new.seen c.args.some.now c.loop-frame.frame-index no_frame c.loop-frame-test.true
          c.loop-frame.invariant.1 found.2,
    )

pub returns : goal.returns
returns c = some_all c.args.frames.now c.args.some.now c.loop-frame.frame-index c.requires.some c.loop-frame-test.false c.loop-frame.invariant.0
