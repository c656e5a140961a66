use Rattle.std.proofs.Common.{◌≤◌, ◌<◌, ◌^◌, length, sym, ◌∙◌, subst, arith}
use Rattle.std.proofs.lemmas.List.{length-set}
use Rattle.std.proofs.lemmas.List.Elements.{All-set}
use Rattle.tsn_model.specs.Network.{stream_count}
use Rattle.tsn_replay.specs.declared.queue.Frame.{Frame}
use Rattle.tsn_replay.specs.declared.queue.Stage.TheVariants.{Coming}
use Rattle.tsn_replay.specs.Queue.{frame_in, passage_of}
use Rattle.tsn_replay.specs.Progress.{first_turn}
use Rattle.tsn_replay.proofs.Fresh.{first_turns}
use Rattle.tsn_replay.proofs.Hastening.{first_sooner, first_has, begun_next, line_next, first_next}
use Rattle.tsn_replay.proofs.Steps.{read_frame}
use Rattle.tsn_replay.proofs.engine.Replay.frames.Goals as goal

pub loop-number-init : goal.loop-number-init
loop-number-init c = record {
  begun = record {
    turn = first_turn c.args.self.now.network.now c.args.self.now.offsets.now;
    tracked = c.in_ok-frames.ensures.tracked c.args.self.now.slack;
    turns = λ q due passage is_ready.
        first_turns c.args.self.now.network.now c.args.self.now.offsets.now c.args.self.now.slack q due is_ready;
  };
  line = c.in_ok-frames.ensures.line;
  first = c.in_ok-frames.ensures.first;
  ready = c.in_ok-frames.ensures.ready;
  last = omega arith;
}

pub haste-haste-requires-clause-stream : goal.haste-haste-requires-clause-stream
unfolding passage_of
haste-haste-requires-clause-stream c =
    let frames = c.loop-number.frames.items in
    let number = c.loop-number.number in
    let last = c.loop-number.invariant.last in
    let below : number < length frames = omega arith in
    let is = read_frame frames number c.index.result.now below c.index.ensures in
    subst (λ (f : Frame). f.stream < stream_count c.args.self.now.network.now) (sym is)
    (c.loop-number.invariant.begun.tracked.each number below).passage.stream

pub turned-first-requires-clause-stream : goal.turned-first-requires-clause-stream
unfolding passage_of
turned-first-requires-clause-stream c =
    let frames = c.loop-number.frames.items in
    let number = c.loop-number.number in
    let last = c.loop-number.invariant.last in
    let below : number < length frames = omega arith in
    let is = read_frame frames number c.index.result.now below c.index.ensures in
    subst (λ (f : Frame). f.stream < stream_count c.args.self.now.network.now) (sym is)
    (c.loop-number.invariant.begun.tracked.each number below).passage.stream

pub turned-first-requires-clause-sooner : goal.turned-first-requires-clause-sooner
turned-first-requires-clause-sooner c =
    let frames = c.loop-number.frames.items in
    let number = c.loop-number.number in
    let last = c.loop-number.invariant.last in
    let below : number < length frames = omega arith in
    let is = read_frame frames number c.index.result.now below c.index.ensures in
    first_sooner c.args.self.now.network.now c.args.self.now.offsets.now c.args.self.now.cycles c.deref.result.now
    frames c.deref.ensures.value c.loop-number.invariant.line number c.loop-number.invariant.first below c.index.result.now is

pub loop-number-preserved : goal.loop-number-preserved
unfolding frame_in
loop-number-preserved c =
    let network = c.args.self.now.network.now in
    let offsets = c.args.self.now.offsets.now in
    let slack = c.args.self.now.slack in
    let cycles = c.args.self.now.cycles in
    let frames = c.loop-number.frames.items in
    let number = c.loop-number.number in
    let last = c.loop-number.invariant.last in
    let below : number < length frames = omega arith in
    let is = read_frame frames number c.index.result.now below c.index.ensures in
    let new = c.turned-first.result in
    let has = first_has network c.haste-haste.result.slack slack number c.deref.result.now frames c.index.result.now
    new c.haste-haste.ensures c.deref.ensures.value is c.turned-first.ensures in
    let begun = c.loop-number.invariant.begun in
    let line = c.loop-number.invariant.line in
    let first = c.loop-number.invariant.first in
    let upto = has.turn.upto in
    let early = c.loop-number.invariant.ready number
    (record { stream = 0; hop = 0; shift = 0; cycle = 0; stage = Coming; ready = 0; rank = 0 }) below in
    record {
      begun = begun_next network offsets slack cycles number frames begun line first below new has;
      line = line_next network offsets slack cycles number frames begun line first below new has;
      first = first_next network offsets slack cycles number frames begun line first below new has;
      ready = All-set (λ (frame : Frame). frame.ready ≤ 2 ^ 50) frames number new (omega arith) c.loop-number.invariant.ready;
      last = last ∙ sym (length-set frames number new);
    }

pub haste-haste-requires-clause-setting : goal.haste-haste-requires-clause-setting
haste-haste-requires-clause-setting c = c.requires
