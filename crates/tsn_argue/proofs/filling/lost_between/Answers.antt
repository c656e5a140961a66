use Rattle.std.proofs.Common.{◌≡◌, ◌+◌, ◌-◌, [], ◌∷◌, drop, get_or, Contains, sym, ap, ◌∙◌, subst, arith}
use Rattle.std.proofs.lemmas.Result.{err_from_is_err_and}
use Rattle.std.proofs.lemmas.Grind.{pieces}
use Rattle.tsn_model.specs.Argument.{natural, head_at, end_at, left_over, AreInTurn}
use Rattle.tsn_argue.specs.Faults.{IsWrongTurn}
use Rattle.tsn_argue.specs.Rooms.{frames_of, network_of}
use Rattle.tsn_argue.specs.State.{view_of}
use Rattle.tsn_argue.proofs.LinkLemmas.{no_frame}
use Rattle.tsn_argue.proofs.Turns.{found_none, found_next, found_wrong, found_end, IsFound}
use Rattle.tsn_argue.proofs.filling.lost_between.Goals as goal

pub loop-frame-init : goal.loop-frame-init
loop-frame-init c =
    let group = c.args.group.now in
    record {
      small = c.requires.group.hall.first_small;
      less = omega arith;
      is = found_none group.view.now.timing.now (view_of group.view.now) group.link (frames_of group) group.hall.first group.hall.last
          c.args.fixed.now;
    }

pub returns-in_err-judge_turn : goal.returns-in_err-judge_turn
returns-in_err-judge_turn c =
    let group = c.args.group.now in
    let network = network_of group in
    let view = view_of group.view.now in
    let frame = get_or c.args.fixed.now c.loop-frame.frame-index no_frame in
    let p = err_from_is_err_and c.from_residual.result c.from_residual.ensures.1 in
    let wrong = subst (λ list. IsWrongTurn network view group.link (group.first ∷ list) c.loop-frame.low (frame ∷ []) c.in_err-judge_turn.field-0.0)
    c.requires.seen c.in_err-judge_turn.ensures in
    rw (p.1, p.2) (found_wrong network view group.link (frames_of group) group.hall.first group.hall.last c.args.fixed.now c.loop-frame.low
    c.loop-frame.lost c.loop-frame.frame-index no_frame _ c.loop-frame-test.true c.loop-frame.invariant.is wrong)

pub loop-frame-preserved : goal.loop-frame-preserved
loop-frame-preserved c =
    let group = c.args.group.now in
    let network = network_of group in
    let view = view_of group.view.now in
    let frame = get_or c.args.fixed.now c.loop-frame.frame-index no_frame in
    let frames = group.first ∷ group.others.now in
    let old = c.loop-frame.invariant in
    let turn = c.in_ok-judge_turn.ensures in
    let has = subst (λ list. Contains (group.first ∷ list) frame) c.requires.seen turn.0 in
    let span = c.span_of-span.ensures in
    let later = turn.1.1 in
    let head = span.head in
    let order = span.order in
    let less = old.less in
    let within = c.left_over-lost.ensures.within in
    let next = found_next network view group.link frames group.hall.first group.hall.last c.args.fixed.now c.loop-frame.low c.loop-frame.lost
    c.loop-frame.frame-index no_frame c.loop-frame-test.true old.is has turn.1 in
    let more : c.left_over-lost.result ≡ left_over network view group.link frames c.loop-frame.low (natural (head_at network view group.link frame))
    (natural (head_at network view group.link frame) - c.loop-frame.low) =
    c.left_over-lost.ensures.value ∙ ap (λ n. left_over network view group.link frames c.loop-frame.low n (n - c.loop-frame.low)) head in
    record {
      small = span.end_small;
      less = omega (arith, less, within, later, head, order);
      is = subst (λ n. IsFound network view group.link frames group.hall.first group.hall.last c.args.fixed.now n
          (c.loop-frame.lost + c.left_over-lost.result)
          (drop (c.loop-frame.frame-index + 1) c.args.fixed.now)) (sym span.end)
          (subst (λ n. IsFound network view group.link frames group.hall.first group.hall.last c.args.fixed.now
          (natural (end_at network view group.link frame))
          (c.loop-frame.lost + n) (drop (c.loop-frame.frame-index + 1) c.args.fixed.now)) (sym more) next);
    }

pub returns : goal.returns
returns c =
    let group = c.args.group.now in
    let network = network_of group in
    let view = view_of group.view.now in
    let all = found_end network view group.link (frames_of group) group.hall.first group.hall.last c.args.fixed.now c.loop-frame.low
    c.loop-frame.lost c.loop-frame.frame-index c.loop-frame-test.false c.loop-frame.invariant.is in
    (all.0, all.1, ap (λ n. c.loop-frame.lost + n) c.left_over.ensures.value ∙ all.2)

pub judge_turn-requires-clause-on : goal.judge_turn-requires-clause-on
judge_turn-requires-clause-on c = search (pieces, arith) depth 5 fits 300
