use Rattle.std.proofs.Common.{◌≡◌, ◌+◌, ◌*◌, ◌++◌, List, All, ◌≤◌, ◌^◌, map, get_or, sym, ap, ◌∙◌, subst, arith, append-nil, append_assoc}
use Rattle.std.specs.List.{flat_map, range_with_len}
use Rattle.tsn_model.specs.Network.{stream_count, hop_count}
use Rattle.tsn_model.specs.Timing.{shifts}
use Rattle.tsn_replay.specs.declared.queue.Frame.{Frame}
use Rattle.tsn_replay.specs.Queue.{AreInLine, fresh_frame}
use Rattle.tsn_replay.specs.Feeding.{no_start}
use Rattle.tsn_replay.specs.Progress.{IsTracked, AreFirst, first_turn}
use Rattle.tsn_replay.proofs.Fresh.{pieces_next, cycle_frames, hop_frames, stream_frames, frames_upto, fresh_tracked, fresh_first, fresh_line, fresh_early}
use Rattle.tsn_replay.proofs.queue.frames_of.Goals as goal

pub loop-hop-init : goal.loop-hop-init
loop-hop-init c = record {
  so_far = c.loop-stream.invariant.so_far
      ∙ sym (append-nil (frames_upto c.args.network.now c.args.offsets.now c.args.cycles c.loop-stream.stream));
  last = c.hops-hop-end.ensures.value;
}

pub loop-cycle-init : goal.loop-cycle-init
loop-cycle-init c = record {
  so_far = c.loop-hop.invariant.so_far
      ∙ sym (append-nil (frames_upto c.args.network.now c.args.offsets.now c.args.cycles c.loop-stream.stream
      ++ flat_map (hop_frames c.args.network.now c.args.offsets.now c.args.cycles c.loop-stream.stream) (range_with_len 0 c.loop-hop.hop)));
}

pub loop-cycle-preserved : goal.loop-cycle-preserved
loop-cycle-preserved c =
    let network = c.args.network.now in
    let offsets = c.args.offsets.now in
    let stream = c.loop-stream.stream in
    let hop = c.loop-hop.hop in
    let cycle = c.loop-cycle.cycle in
    let of_cycle = cycle_frames network offsets c.args.cycles stream hop in
    let before = frames_upto network offsets c.args.cycles stream ++ flat_map (hop_frames network offsets c.args.cycles stream)
    (range_with_len 0 hop) in
    let pushed = map (fresh_frame c.first_stage-stage.result stream hop cycle (cycle * c.cycle-length.result + get_or offsets stream 0))
    (shifts network stream) in
    let new : pushed ≡ of_cycle cycle =
    λ i. map (fresh_frame (c.first_stage-stage.ensures i) stream hop cycle
    (cycle * c.cycle-length.ensures.value i + get_or offsets stream 0)) (shifts network stream) in
    record {
      so_far =
          c.in_ok-push_cycle.ensures
          ∙ (ap (λ (frames : List Frame). frames ++ pushed) c.loop-cycle.invariant.so_far
          ∙ (ap (λ xs. (before ++ flat_map of_cycle (range_with_len 0 cycle)) ++ xs) new
          ∙ (append_assoc before (flat_map of_cycle (range_with_len 0 cycle)) (of_cycle cycle)
          ∙ ap (λ xs. before ++ xs) (sym (pieces_next of_cycle cycle)))));
    }

pub loop-hop-preserved : goal.loop-hop-preserved
loop-hop-preserved c =
    let network = c.args.network.now in
    let offsets = c.args.offsets.now in
    let stream = c.loop-stream.stream in
    let hop = c.loop-hop.hop in
    let of_hop = hop_frames network offsets c.args.cycles stream in
    let before = frames_upto network offsets c.args.cycles stream in
    let all : c.loop-cycle.cycle ≡ c.args.cycles = omega arith in
    record {
      so_far =
          c.loop-cycle.invariant.so_far
          ∙ (ap (λ n. (before ++ flat_map of_hop (range_with_len 0 hop)) ++ flat_map
          (cycle_frames network offsets c.args.cycles stream hop) (range_with_len 0 n)) all
          ∙ (append_assoc before (flat_map of_hop (range_with_len 0 hop)) (of_hop hop)
          ∙ ap (λ xs. before ++ xs) (sym (pieces_next of_hop hop))));
      last = c.loop-hop.invariant.last;
    }

pub loop-stream-preserved : goal.loop-stream-preserved
loop-stream-preserved c =
    let network = c.args.network.now in
    let offsets = c.args.offsets.now in
    let stream = c.loop-stream.stream in
    let last = c.loop-hop.invariant.last in
    let all : c.loop-hop.hop ≡ hop_count network stream = omega arith in
    record {
      so_far =
          c.loop-hop.invariant.so_far
          ∙ (ap (λ n. frames_upto network offsets c.args.cycles stream ++ flat_map (hop_frames network offsets c.args.cycles stream)
          (range_with_len 0 n)) all
          ∙ sym (pieces_next (stream_frames network offsets c.args.cycles) stream));
      last = c.loop-stream.invariant.last;
    }

pub returns-clause-tracked : goal.returns-clause-tracked
returns-clause-tracked c slack =
    let all : c.loop-stream.stream ≡ stream_count c.args.network.now = omega arith in
    subst (IsTracked c.args.network.now
    (record { offsets = c.args.offsets.now; slack = slack; turn = first_turn c.args.network.now c.args.offsets.now })
    c.args.cycles no_start)
    (sym (c.loop-stream.invariant.so_far ∙ ap (frames_upto c.args.network.now c.args.offsets.now c.args.cycles) all))
    (fresh_tracked c.args.network.now c.args.offsets.now c.args.cycles c.requires.spaced slack)

pub returns-clause-first : goal.returns-clause-first
returns-clause-first c =
    let all : c.loop-stream.stream ≡ stream_count c.args.network.now = omega arith in
    subst (AreFirst c.args.network.now c.args.offsets.now 0)
    (sym (c.loop-stream.invariant.so_far ∙ ap (frames_upto c.args.network.now c.args.offsets.now c.args.cycles) all))
    (fresh_first c.args.network.now c.args.offsets.now c.args.cycles c.requires.spaced)

pub returns-clause-line : goal.returns-clause-line
returns-clause-line c =
    let all : c.loop-stream.stream ≡ stream_count c.args.network.now = omega arith in
    subst (AreInLine c.args.network.now c.args.cycles)
    (sym (c.loop-stream.invariant.so_far ∙ ap (frames_upto c.args.network.now c.args.offsets.now c.args.cycles) all))
    (fresh_line c.args.network.now c.args.offsets.now c.args.cycles c.requires.spaced)

pub returns-clause-ready : goal.returns-clause-ready
returns-clause-ready c =
    let all : c.loop-stream.stream ≡ stream_count c.args.network.now = omega arith in
    subst (All (λ (frame : Frame). frame.ready ≤ 2 ^ 50))
    (sym (c.loop-stream.invariant.so_far ∙ ap (frames_upto c.args.network.now c.args.offsets.now c.args.cycles) all))
    (fresh_early c.args.network.now c.args.offsets.now c.args.cycles c.requires.spaced c.cycle-length.ensures.well_formed
    c.requires.small c.requires.count
    c.requires.few)
