use Rattle.std.proofs.Common.{◌≡◌, ◌≤◌, ◌^◌, All, length}
use Rattle.tsn_replay.specs.declared.queue.Frame.{Frame}
use Rattle.tsn_replay.specs.Queue.{AreInLine}
use Rattle.tsn_replay.specs.Feeding.{no_start}
use Rattle.tsn_replay.specs.Progress.{AreFirst, AreBegun}
use Rattle.tsn_replay.proofs.engine.Replay.frames.Given as goal

abbrev pub invariant-loop-number : goal.invariant-loop-number
invariant-loop-number l = record {
  begun : AreBegun l.self.network.now l.self.offsets.now l.self.slack l.self.cycles no_start l.frames.items;
  line : AreInLine l.self.network.now l.self.cycles l.frames.items;
  first : AreFirst l.self.network.now l.self.offsets.now l.number l.frames.items;
  ready : All (λ (frame : Frame). frame.ready ≤ 2 ^ 50) l.frames.items;
  last : l.number-end ≡ length l.frames.items;
}
