use Rattle.std.proofs.Common.{◌≡◌, ◌+◌, ◌*◌, arith}
use Rattle.tsn_model.specs.Network.{turns_of, burst_of}
use Rattle.tsn_chart.proofs.Counting.{upto-more, upto-few}
use Rattle.tsn_chart.proofs.frames.frames_of.Goals as goal

pub overflow_mul-result : goal.overflow_mul-result
overflow_mul-result c =
    let network = c.args.network.now in
    let i = c.args.stream in
    let same : c.turns.result * c.burst.result ≡ turns_of network i * burst_of network i = λ k. c.turns.ensures.value k * c.burst.ensures.value k in
    let more = upto-more network i c.requires in
    let few = upto-few network c.cycle-limits.ensures.well_formed (i + 1) in
    omega arith

pub returns : goal.returns
returns c = λ k. c.turns.ensures.value k * c.burst.ensures.value k
