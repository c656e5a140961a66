use Rattle.std.proofs.Common.{◌≡◌, ◌*◌, sym, ◌∙◌, arith}
use Rattle.tsn_model.specs.Network.{turns_of, burst_of}
use Rattle.tsn_replay.proofs.Counting.{below-more, shifts-long, shifts-few}
use Rattle.tsn_replay.proofs.visits.frame_count.Goals as goal

pub overflow_mul-result : goal.overflow_mul-result
overflow_mul-result c =
    let network = c.args.network.now in
    let same : c.turns.result * c.burst.result ≡ turns_of network c.args.stream * burst_of network c.args.stream =
    λ i. c.turns.ensures.value i * c.burst.ensures.value i in
    let long = shifts-long network c.args.stream in
    let more = below-more network c.args.stream in
    let few = shifts-few network c.cycle-limits.ensures.well_formed c.args.stream c.requires in
    omega arith

pub returns : goal.returns
returns c = (λ i. c.turns.ensures.value i * c.burst.ensures.value i) ∙ sym (shifts-long c.args.network.now c.args.stream)
