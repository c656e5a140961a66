use Rattle.std.proofs.Common.{◌≡◌, subst, arith}
use Rattle.tsn_model.specs.Network.{stream_count}
use Rattle.tsn_branch.proofs.Arrivals.{IsLastSoFar, flowspan_is, IsFirstLast-from}
use Rattle.tsn_branch.proofs.instants.last_arrival.Goals as goal

pub returns-clause-stream : goal.returns-clause-stream
returns-clause-stream c =
    let network = c.args.timing.now in
    let all = c.loop-stream.invariant.all in
    let past = c.loop-stream-test.false in
    let done = c.loop-stream.auto.stream-end in
    let some = c.streams-streams.ensures.some in
    let end : c.loop-stream.stream ≡ stream_count network = omega arith in
    IsFirstLast-from network c.args.offsets.now c.loop-stream.last c.loop-stream.end
    (subst (λ n. IsLastSoFar network c.args.offsets.now n c.loop-stream.last c.loop-stream.end) end c.loop-stream.invariant.last)

pub returns-clause-instant : goal.returns-clause-instant
returns-clause-instant c =
    let network = c.args.timing.now in
    let all = c.loop-stream.invariant.all in
    let past = c.loop-stream-test.false in
    let done = c.loop-stream.auto.stream-end in
    let some = c.streams-streams.ensures.some in
    let end : c.loop-stream.stream ≡ stream_count network = omega arith in
    flowspan_is network c.args.offsets.now c.loop-stream.last c.loop-stream.end
    (subst (λ n. IsLastSoFar network c.args.offsets.now n c.loop-stream.last c.loop-stream.end) end c.loop-stream.invariant.last)
