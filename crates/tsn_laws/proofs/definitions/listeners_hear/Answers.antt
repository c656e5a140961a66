use Rattle.std.proofs.Common.{arith}
use Rattle.tsn_model.specs.Timing.{hop_arrival}
use Rattle.tsn_model.proofs.Listeners.{frame_heard, last_heard}
use Rattle.tsn_laws.proofs.definitions.listeners_hear.Goals as goal

pub returns : goal.returns
unfolding hop_arrival
returns c = λ network formed i counted.
    let last = last_heard network formed i counted in
    (frame_heard network formed i counted, (last.0, last.1, last.2, let is = last.3 in omega arith))
