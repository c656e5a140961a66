use Rattle.std.proofs.Common.{◌≡◌, ◌+◌, ap}
use Rattle.tsn_core.proofs.Sharing.{start_state, start_shared}
use Rattle.tsn_core.proofs.shared.Core.new.Goals as goal

pub invariant_of-result : goal.invariant_of-result
invariant_of-result c =
    let network = c.args.timing.now in
    let past : c.cycle-past_cycle.result + 1 ≡ network.cycle + 1 = ap (λ n. n + 1) c.cycle-past_cycle.ensures.value in
    start_shared network c.in_ok-book.book c.args.tellers c.args.limit (c.cycle-past_cycle.result + 1) c.in_ok-known.known.items c.cycle-past_cycle.ensures.well_formed past c.in_ok-book.ensures c.in_ok-known.ensures

pub returns-clause-start : goal.returns-clause-start
returns-clause-start c =
    let network = c.args.timing.now in
    let past : c.cycle-past_cycle.result + 1 ≡ network.cycle + 1 = ap (λ n. n + 1) c.cycle-past_cycle.ensures.value in
    let start = start_state network c.in_ok-book.book c.args.tellers c.args.limit (c.cycle-past_cycle.result + 1) c.in_ok-known.known.items past c.in_ok-book.ensures c.in_ok-known.ensures in
    λ i. record { network = (c.in_ok-book.ensures i).network; limit = (c.in_ok-book.ensures i).limit; state = start i }

pub returns-clause-sound : goal.returns-clause-sound
returns-clause-sound c = (invariant_of-result c).sound
