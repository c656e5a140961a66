use Rattle.std.proofs.Common.{◌≡◌, ◌++◌, map}
use Rattle.tsn_model.specs.Network.{turns_of, burst_of}
use Rattle.tsn_timing.proofs.Sending.{of_turn, of_turns}
use Rattle.tsn_replay.specs.Queue.{fresh_frame}
use Rattle.tsn_replay.proofs.queue.push_cycle.Given as goal

abbrev pub invariant-loop-turn : goal.invariant-loop-turn
invariant-loop-turn l = record {
  so_far : l.frames.items ≡ l.fn.frames.items ++ map (fresh_frame l.stage l.stream l.hop l.cycle l.begin)
      (of_turns l.network l.stream l.turn);
  last : l.turn-end ≡ turns_of l.network l.stream;
}

abbrev pub invariant-loop-place : goal.invariant-loop-place
invariant-loop-place l = record {
  so_far : l.frames.items ≡ l.fn.frames.items ++ map (fresh_frame l.stage l.stream l.hop l.cycle l.begin)
      (of_turns l.network l.stream l.turn ++ of_turn l.network l.stream l.place l.turn);
  last : l.place-end ≡ burst_of l.network l.stream;
}
