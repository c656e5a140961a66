use Rattle.std.proofs.Common.{◌+◌, ap, ◌∙◌, subst, arith}
use Rattle.tsn_model.specs.Timing.{hop_delay}
use Rattle.tsn_model.proofs.Hops.{hop_delay-pos}
use Rattle.tsn_replay.specs.declared.queue.Frame.{Frame}
use Rattle.tsn_replay.specs.declared.queue.Stage.TheVariants.{Queued}
use Rattle.tsn_replay.specs.Queue.{frame_in}
use Rattle.tsn_replay.specs.Progress.{HasTurn}
use Rattle.tsn_replay.proofs.queue.arrive.Goals as goal

pub turned-requires-clause-stream : goal.turned-requires-clause-stream
unfolding frame_in
turned-requires-clause-stream c = c.requires.stream

pub turned-requires-clause-least : goal.turned-requires-clause-least
turned-requires-clause-least c =
    let started = c.args.started.now in
    let value = c.hop_delay.ensures.value ∙ ap (hop_delay c.args.network.now started.stream) c.route_link-link.ensures.value in
    let some = hop_delay-pos c.args.network.now c.cycle-limits.ensures.well_formed started.stream c.requires.started
    started.hop c.requires.hop in
    omega arith

pub turned-requires-clause-sooner : goal.turned-requires-clause-sooner
unfolding frame_in
turned-requires-clause-sooner c before next one queued =
    let started = c.args.started.now in
    let sooner = c.requires.sooner before next one queued in
    let value = c.hop_delay.ensures.value ∙ ap (hop_delay c.args.network.now started.stream) c.route_link-link.ensures.value in
    omega arith

pub returns-clause-turn : goal.returns-clause-turn
unfolding frame_in
returns-clause-turn c =
    let started = c.args.started.now in
    let frame = frame_in c.args.frames.now c.args.number in
    let value = c.hop_delay.ensures.value ∙ ap (hop_delay c.args.network.now started.stream) c.route_link-link.ensures.value in
    subst (λ (due : Frame).
    HasTurn c.args.network.now c.args.haste.slack c.args.frames.now c.args.number due (c.args.time + 1) c.turned.result)
    (λ i. record {
      stream = frame.stream;
      hop = frame.hop;
      shift = frame.shift;
      cycle = frame.cycle;
      stage = Queued;
      ready = c.args.time + value i;
      rank = frame.rank;
    }) c.turned.ensures
