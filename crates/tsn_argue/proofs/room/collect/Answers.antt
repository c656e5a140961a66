use Rattle.std.proofs.Common.{◌≡◌, ℕ, ◌+◌, ◌-◌, ◌^◌, ◌<◌, ◌∷◌, [], drop, get_or, length, sym, ap, ◌∙◌, subst, arith}
use Rattle.std.proofs.lemmas.List.{drop_all}
use Rattle.std.proofs.lemmas.List.Elements.{All-nil, All-head, All-tail}
use Rattle.tsn_model.specs.Certificate.{IsFrameOn}
use Rattle.tsn_sums.specs.Sums.{AreLow}
use Rattle.tsn_argue.specs.State.{view_of}
use Rattle.tsn_argue.specs.Rooms.{network_of, rows_on, rows_with}
use Rattle.tsn_argue.proofs.LinkLemmas.{no_frame}
use Rattle.tsn_argue.proofs.RoomLemmas.{rows_nil, rows_cons, length_with, frames_from}
use Rattle.tsn_argue.proofs.room.collect.Goals as goal

pub loop-step-init : goal.loop-step-init
loop-step-init c =
    let group = c.args.group.now in
    let network = network_of group in
    let view = view_of group.view.now in
    let none = drop_all (length group.others.now - 0) group.others.now (omega arith) in
    let empty = c.clear.ensures in record {
      rows = empty ∙ sym (rows_nil network group.link view c.args.gap.low c.args.gap.high c.args.is_left)
          ∙ ap (rows_on network view group.link c.args.gap.low c.args.gap.high c.args.is_left) (sym none);
      few = let long = ap length empty in omega (arith, long);
      low = subst AreLow (sym empty) (All-nil (λ (work : ℕ × ℕ). work.1 < 2 ^ 32));
    }

pub put_frame-requires-clause-on : goal.put_frame-requires-clause-on
put_frame-requires-clause-on c =
    let group = c.args.group.now in
    All-tail (IsFrameOn group.view.now.timing.now group.link) group.first group.others.now c.requires.group.on
    (length group.others.now - (c.loop-step.step + 1)) no_frame (omega arith)

pub loop-step-preserved : goal.loop-step-preserved
loop-step-preserved c =
    let group = c.args.group.now in
    let network = network_of group in
    let view = view_of group.view.now in
    let others = group.others.now in
    let frame = get_or others (length others - (c.loop-step.step + 1)) no_frame in
    let old = c.loop-step.invariant in
    let whole = c.put_frame.ensures.rows
    ∙ ap (rows_with network view group.link c.args.gap.low c.args.gap.high c.args.is_left frame) old.rows
    ∙ sym (rows_cons network group.link view c.args.gap.low c.args.gap.high c.args.is_left frame (drop (length others - c.loop-step.step) others))
    ∙ ap (rows_on network view group.link c.args.gap.low c.args.gap.high c.args.is_left) (sym (frames_from others c.loop-step.step no_frame (omega arith))) in
    let longer = length_with network group.link view c.args.gap.low c.args.gap.high c.args.is_left frame c.loop-step.rows in
    let long = ap length c.put_frame.ensures.rows in
    let few = old.few in record {
      rows = whole;
      few = omega (arith, longer, long, few);
      low = c.put_frame.ensures.low old.low;
    }

pub put_frame-requires-2-clause-on : goal.put_frame-requires-2-clause-on
put_frame-requires-2-clause-on c =
    let group = c.args.group.now in
    All-head (IsFrameOn group.view.now.timing.now group.link) group.first group.others.now c.requires.group.on

pub returns-clause-rows : goal.returns-clause-rows
returns-clause-rows c =
    let group = c.args.group.now in
    let network = network_of group in
    let view = view_of group.view.now in
    let all : length group.others.now - c.loop-step.step ≡ 0 = omega arith in
    c.put_frame-2.ensures.rows
    ∙ ap (rows_with network view group.link c.args.gap.low c.args.gap.high c.args.is_left group.first)
    (c.loop-step.invariant.rows ∙ ap (λ n. rows_on network view group.link c.args.gap.low c.args.gap.high c.args.is_left (drop n group.others.now)) all)
    ∙ sym (rows_cons network group.link view c.args.gap.low c.args.gap.high c.args.is_left group.first group.others.now)

pub returns-clause-low : goal.returns-clause-low
returns-clause-low c = c.put_frame-2.ensures.low c.loop-step.invariant.low
