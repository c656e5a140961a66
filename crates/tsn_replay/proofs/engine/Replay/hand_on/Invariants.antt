use Rattle.std.proofs.Common.{◌≡◌, ◌≤◌, ◌^◌, All}
use Rattle.tsn_model.specs.Network.{hop_count}
use Rattle.tsn_replay.specs.declared.queue.Frame.{Frame}
use Rattle.tsn_replay.specs.Queue.{frame_in}
use Rattle.tsn_replay.proofs.Handing.{IsHandedUpto}
use Rattle.tsn_replay.proofs.engine.Replay.hand_on.Given as goal

abbrev pub invariant-loop-hop : goal.invariant-loop-hop
invariant-loop-hop l = record {
  handed : IsHandedUpto l.self.network.now l.self.slack l.fn.frames.items l.number l.time l.hop l.frames.items;
  ready : All (λ (frame : Frame). frame.ready ≤ 2 ^ 50) l.frames.items;
  last : l.hop-end ≡ hop_count l.self.network.now (frame_in l.fn.frames.items l.number).stream;
}
