use Rattle.std.proofs.Common.{◌≡◌, ◌-◌, ap, sym, ◌∙◌, arith}
use Rattle.tsn_replay.specs.declared.queue.Stage.TheVariants.{Queued}
use Rattle.tsn_replay.specs.Queue.{frame_in}
use Rattle.tsn_replay.proofs.Stages.{stages_same, stages_differ}
use Rattle.tsn_replay.proofs.queue.behind.Goals as goal
use Rattle.tsn_replay.proofs.queue.behind.Goals.{else-before-due-via-then-before-due+then-before-due-2+else-eq, else-before-due-via-then-before-due+else-before-due-2, else-before-due-via-else-before-due}

pub overflow_add-result : goal.overflow_add-result
unfolding frame_in
overflow_add-result c =
    let queued = stages_same (frame_in c.args.frames.now (c.args.number - 1)).stage Queued (sym c.eq.ensures ∙ c.if-eq.true) in
    let sooner = c.requires.sooner (c.args.number - 1) (omega arith) (c.if-before-due.true, c.if-before-due-2.true) queued in
    omega arith

pub returns-then-eq-clause-upto : goal.returns-then-eq-clause-upto
unfolding frame_in
returns-then-eq-clause-upto c =
    let queued = stages_same (frame_in c.args.frames.now (c.args.number - 1)).stage Queued (sym c.eq.ensures ∙ c.if-eq.true) in
    let sooner = c.requires.sooner (c.args.number - 1) (omega arith) (c.if-before-due.true, c.if-before-due-2.true) queued in
    omega arith

pub returns-then-eq-clause-behind : goal.returns-then-eq-clause-behind
unfolding frame_in
returns-then-eq-clause-behind c before next one queued =
    let same : before ≡ c.args.number - 1 = omega arith in
    let ready = ap (λ n. (frame_in c.args.frames.now n).ready) same in
    omega arith

pub returns-else-before-due-clause-behind : goal.returns-else-before-due-clause-behind
unfolding frame_in
returns-else-before-due-clause-behind c before next one queued =
    let same : before ≡ c.args.number - 1 = omega arith in
    let of = ap (λ n. (frame_in c.args.frames.now n).stream) same in
    let on = ap (λ n. (frame_in c.args.frames.now n).hop) same in
    let stage = ap (λ n. (frame_in c.args.frames.now n).stage) same in
    elim c.else-before-due.branch [
      | else-before-due-via-then-before-due+then-before-due-2+else-eq w ↦
          absurd (stages_differ (frame_in c.args.frames.now (c.args.number - 1)).stage Queued
          (sym w.eq.ensures ∙ w.if-eq.false) (sym stage ∙ queued))
      | else-before-due-via-then-before-due+else-before-due-2 w ↦ absurd (w.if-before-due-2.false (sym on ∙ one.1))
      | else-before-due-via-else-before-due w ↦ absurd (w.if-before-due.false (sym of ∙ one.0))
    ]
